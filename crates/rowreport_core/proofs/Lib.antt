pub mod Sentences
pub mod Theorems
