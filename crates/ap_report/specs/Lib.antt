pub mod Status
pub mod FaultLines
pub mod Queries
pub mod TextReport
pub mod SoundAnswers
pub mod CompleteTexts
pub mod Laws
