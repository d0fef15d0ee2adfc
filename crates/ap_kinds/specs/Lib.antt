pub mod Sorts
pub mod ItemKinds
pub mod Reading
pub mod ReadTypes
pub mod Systems
pub mod Layers
pub mod Gathering
