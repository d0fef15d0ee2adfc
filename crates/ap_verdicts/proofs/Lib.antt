pub mod SoundnessLemmas
pub mod LimitedLemmas
