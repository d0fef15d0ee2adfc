pub mod Equations
pub mod Settled
pub mod Tables
pub mod Views
