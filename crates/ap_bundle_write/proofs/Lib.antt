pub mod SpaceLemmas
pub mod Stacks
pub mod NodeTexts
pub mod WordLemmas
pub mod EntryLemmas
pub mod WalkLemmas
pub mod WritingLemmas
