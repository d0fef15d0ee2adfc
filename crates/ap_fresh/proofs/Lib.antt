pub mod SetLemmas
pub mod StepLemmas
pub mod RenamedLemmas
pub mod PendingLemmas
pub mod ListingLemmas
mod SoughtLemmas
