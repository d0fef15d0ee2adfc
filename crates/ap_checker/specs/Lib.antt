pub mod Rules
pub mod Tables
pub mod Walks
pub mod NewNames
pub mod Refusals
