pub mod Picks
pub mod Choices
pub mod ChoiceRounds
pub mod Wants
pub mod Pickers
pub mod StatementsOnPicks
