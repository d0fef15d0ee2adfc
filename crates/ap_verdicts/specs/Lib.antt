pub mod Proofs
pub mod Verdicts
pub mod Soundness
