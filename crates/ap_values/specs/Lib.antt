pub mod Flat
pub mod FlatProps
pub mod Differing
pub mod Writing
