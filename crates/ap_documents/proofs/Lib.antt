pub mod DocumentLemmas
pub mod TokenCounts
