pub mod SwappingLemmas
pub mod ImageLemmas
pub mod ExchangeLemmas
pub mod DifferenceLemmas
pub mod LookupLemmas
pub mod ClosureLemmas
pub mod VisitLemmas
pub mod SortLemmas
