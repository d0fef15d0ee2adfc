pub mod TextLemmas
pub mod SoundVerdicts
mod AgainLemmas
mod ConvertLemmas
pub mod CoveredProofs
