pub mod Texts
mod QueryReports
mod Limiting
pub mod WithoutPaths
pub mod SoundTexts
pub mod CompleteTexts
