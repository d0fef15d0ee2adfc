mod ProvedOutLemmas
mod Shared
pub mod PathLemmas
