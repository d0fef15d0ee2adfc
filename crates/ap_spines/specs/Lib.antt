pub mod Spines
pub mod Turned
