pub mod Environments
pub mod TypedGroundings
pub mod ShownInstances
pub mod StatementsOnGroundProofs
pub mod StatementsOnTypedTerms
pub mod StatementsOnShownInstances
