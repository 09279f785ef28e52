pub mod OrderLaws
pub mod Permutations
pub mod EnumerationAnswers
pub mod Theorems
pub mod Examples
