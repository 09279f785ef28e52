pub mod Products
pub mod Private
pub mod Phases
