pub mod Exams
pub mod Reports
pub mod Steps
pub mod Views
pub mod Counterexamples
pub mod Clearances
