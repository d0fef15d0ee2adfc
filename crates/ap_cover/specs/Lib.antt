pub mod Ground
pub mod Covers
pub mod Said
pub mod Waiting
pub mod Laws
pub mod Matched
pub mod StatementsOnMatching
