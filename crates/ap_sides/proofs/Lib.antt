mod HeadLemmas
pub mod BroughtLemmas
