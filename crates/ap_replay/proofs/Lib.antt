pub mod ReplayLemmas
pub mod WholeLemmas
pub mod Shared
mod Kept
