pub mod Marks
pub mod Explained
