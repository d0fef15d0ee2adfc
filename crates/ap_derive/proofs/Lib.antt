pub mod ClosingLemmas
pub mod NodeLemmas
pub mod SolvedLemmas
pub mod ChoiceLemmas
pub mod DerivedLemmas
pub mod UseLemmas
mod TableLemmas
mod WaitingLemmas
mod QuestionSent
