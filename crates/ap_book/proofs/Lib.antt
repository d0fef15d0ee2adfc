pub mod Parting
pub mod Opening
pub mod Keeping
pub mod Merges
pub mod Additions
pub mod Tallying
