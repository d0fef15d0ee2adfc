pub mod Coverer
pub mod Covering
pub mod Followed
pub mod Matches
