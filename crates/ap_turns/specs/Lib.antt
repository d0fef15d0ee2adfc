pub mod Ends
pub mod Heads
pub mod Marks
pub mod Standings
pub mod Turned
