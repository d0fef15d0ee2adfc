pub mod KeyLemmas
pub mod PlaceLemmas
pub mod Shared
pub mod LaneLemmas
