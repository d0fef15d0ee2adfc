pub mod ProveReports
pub mod Counts
pub mod CountReports
pub mod Rows
pub mod Laws
pub mod WorkReports
pub mod Generated
