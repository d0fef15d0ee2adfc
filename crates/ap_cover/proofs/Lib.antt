mod PathLemmas
mod OrderLemmas
pub mod CoverLemmas
pub mod AlphaTypeLemmas
pub mod MatchedLemmas
