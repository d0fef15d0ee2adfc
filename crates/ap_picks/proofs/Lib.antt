pub mod ChoiceLemmas
pub mod DataLemmas
pub mod WantLemmas
pub mod StepLemmas
pub mod PickLemmas
