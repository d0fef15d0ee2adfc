pub mod Written
pub mod WrittenTypes
pub mod WrittenTerms
pub mod WrittenGoals
pub mod Writable
pub mod Worded
pub mod Again
