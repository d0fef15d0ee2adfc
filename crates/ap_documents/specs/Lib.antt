pub mod Predicates
pub mod Documents
