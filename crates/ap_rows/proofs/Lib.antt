mod Controls
mod GroundRows
mod Programs
mod Rows
mod SampledPrograms
mod UnshownConditions
mod RefusedProofs
mod DerivationRows
