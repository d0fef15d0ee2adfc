pub mod SameLemmas
pub mod TableLemmas
