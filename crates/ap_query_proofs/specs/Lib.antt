pub mod ProvedPaths
pub mod CountedPaths
pub mod QueryUses
