pub mod Places
pub mod Ways
pub mod Owned
pub mod OwnedGoals
pub mod Heads
pub mod Scans
pub mod Outcomes
