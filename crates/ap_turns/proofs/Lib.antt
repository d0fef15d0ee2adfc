pub mod FitLemmas
pub mod HeadLemmas
pub mod MachineStepLemmas
pub mod StoreTurnLemmas
