pub mod SpeltLemmas
pub mod WordLists
pub mod Numbered
pub mod Told
pub mod Telling
pub mod Given
