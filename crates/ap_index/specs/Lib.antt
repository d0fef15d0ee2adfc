pub mod Keyed
pub mod Keys
pub mod Places
pub mod Matching
