pub mod OpenEnvironments
pub mod TypeTests
pub mod Checks
pub mod Traces
pub mod StatementsOnChecks
pub mod StatementsOnTraces
