pub mod SoundProofs
mod RowLemmas
mod OrderLemmas
mod DepthLemmas
mod SumLemmas
pub mod Examples
pub mod LengthLemmas
mod QueryLemmas
