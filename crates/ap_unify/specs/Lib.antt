pub mod Finishing
pub mod Lists
pub mod Moved
pub mod Needless
pub mod Parts
pub mod Settled
pub mod Solved
pub mod Unified
