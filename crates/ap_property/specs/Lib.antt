pub mod Properties
pub mod Stated
pub mod PutIn
pub mod Fitting
pub mod StatementsOnProperties
pub mod Verdicts
