mod GoalLemmas
pub mod NameLemmas
mod StatingLemmas
pub mod TableLemmas
