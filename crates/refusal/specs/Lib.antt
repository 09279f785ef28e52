pub mod Numbers
pub mod Table
pub mod Search
pub mod Slices
