pub mod SharedLemmas
pub mod ExpandingLemmas
pub mod EnteringLemmas
pub mod LineWeights
pub mod NodeLemmas
pub mod SharingLemmas
