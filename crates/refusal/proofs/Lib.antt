pub mod Bools
pub mod Searches
pub mod Outcome
pub mod Rooms
