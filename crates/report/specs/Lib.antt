pub mod Report
pub mod Explain
pub mod Output
pub mod Located
pub mod Replies
