mod Reports
mod SoundInputs
mod CompleteInputs
mod RunLemmas
