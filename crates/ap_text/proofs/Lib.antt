mod NameFaults
mod TokenCounts
pub mod Texts
mod Outlooks
