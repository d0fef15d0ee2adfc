pub mod Uncovered
pub mod CoverLines
pub mod ProofLines
pub mod Searched
