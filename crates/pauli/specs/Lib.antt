pub mod Phases
pub mod Coefficients
pub mod Product
