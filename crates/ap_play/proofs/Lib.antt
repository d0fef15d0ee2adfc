pub mod Wholes
pub mod Stepping
pub mod Covering
