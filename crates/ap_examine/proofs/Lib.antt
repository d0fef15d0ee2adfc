mod PathLemmas
mod VerdictLemmas
mod ClearanceLemmas
mod SayingLemmas
mod LineLemmas
mod ProgramLemmas
mod StepLemmas
mod HeldLemmas
pub mod RefutingLemmas
