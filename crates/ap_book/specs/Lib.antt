pub mod Kept
pub mod Counts
pub mod Answers
pub mod Values
