pub mod MoveLemmas
pub mod RunLemmas
pub mod SuspensionLemmas
pub mod TakenLemmas
pub mod WorkLemmas
