pub mod Orders
pub mod Enumerations
pub mod Lent
