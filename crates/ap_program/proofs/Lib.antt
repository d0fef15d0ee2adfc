pub mod RenamingLemmas
pub mod Shared
