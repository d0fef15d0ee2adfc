pub mod TableLemmas
pub mod NodeLemmas
pub mod FreeLemmas
pub mod NewNameLemmas
pub mod AnswerLemmas
pub mod WalkLemmas
mod VerdictLemmas
