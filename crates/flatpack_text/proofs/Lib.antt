pub mod Theorems
pub mod Cuts
pub mod Numbers
pub mod Moves
pub mod Tables
pub mod Reading
pub mod Examples
pub mod Placing
