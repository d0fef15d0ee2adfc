pub mod FoundStates
pub mod StatementsOnSoundness
