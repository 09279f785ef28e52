pub mod Signed
pub mod Turns
pub mod Products
pub mod Theorems
pub mod Examples
