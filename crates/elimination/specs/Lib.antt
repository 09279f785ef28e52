pub mod Rooms
pub mod Equations
pub mod Solving
pub mod Eliminated
pub mod Steps
