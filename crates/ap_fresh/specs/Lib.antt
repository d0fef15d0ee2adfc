pub mod Reduction
pub mod Sought
