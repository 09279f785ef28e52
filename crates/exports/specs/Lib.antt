pub mod Behind
pub mod Flags
