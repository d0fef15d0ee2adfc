pub mod Branches
pub mod ChoicePoints
pub mod Ends
pub mod Problems
pub mod Searches
pub mod Starts
pub mod Turns
pub mod Wanted
