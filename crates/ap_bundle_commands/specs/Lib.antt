pub mod CheckReports
pub mod CheckLaws
pub mod ConvertReports
pub mod ConvertLaws
pub mod CoverReports
