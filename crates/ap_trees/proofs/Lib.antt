pub mod Lists
pub mod TypeLaws
pub mod TermLists
pub mod TermLaws
pub mod TermSteps
