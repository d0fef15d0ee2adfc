pub mod Outcomes
pub mod Stacks
pub mod Nodes
pub mod CitedNodes
pub mod Tables
