pub mod Declarations
pub mod Types
pub mod Identifiers
pub mod Resolution
pub mod Flaws
pub mod Words
pub mod Marks
pub mod Views
