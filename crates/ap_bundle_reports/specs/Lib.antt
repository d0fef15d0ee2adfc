pub mod CheckLines
pub mod BundleReports
