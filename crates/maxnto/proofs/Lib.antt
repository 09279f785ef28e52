pub mod Masks
pub mod Phases
pub mod Outcomes
pub mod Examples
