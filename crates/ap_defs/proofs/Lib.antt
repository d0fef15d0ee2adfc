pub mod SpineLemmas
pub mod WalkLemmas
pub mod PartLemmas
mod WeightLemmas
mod TermWeights
mod LeftLemmas
mod ShapeWeights
mod PathLemmas
