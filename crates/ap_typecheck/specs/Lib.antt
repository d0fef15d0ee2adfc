pub mod Declaring
pub mod Checking
pub mod Views
pub mod Laws
pub mod Typings
