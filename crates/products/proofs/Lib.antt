pub mod ProductLaws
pub mod ProductAnswers
pub mod ProductExamples
pub mod Theorems
