pub mod Builders
pub mod Coming
pub mod Shown
