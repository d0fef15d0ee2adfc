pub mod Runs
pub mod Work
