pub mod Names
pub mod Images
pub mod Lookups
pub mod StatementsOnLookups
pub mod BelowProps
pub mod Closures
pub mod Inner
