pub mod Table
pub mod Words
pub mod Program
pub mod Sizes
