pub mod Text
pub mod Machine
pub mod Moves
pub mod Calls
pub mod Entries
