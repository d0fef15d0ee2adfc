pub mod Stages
pub mod Single
pub mod Covers
