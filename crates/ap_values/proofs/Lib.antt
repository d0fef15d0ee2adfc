pub mod FlatLemmas
pub mod UnionLemmas
pub mod PermLemmas
pub mod DifferingLemmas
pub mod WritingLemmas
