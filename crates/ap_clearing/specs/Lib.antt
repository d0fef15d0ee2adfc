pub mod Clearing
pub mod Starts
