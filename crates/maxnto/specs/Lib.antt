pub mod Formula
pub mod Call
