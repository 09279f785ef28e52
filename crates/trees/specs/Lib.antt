pub mod Trees
pub mod Paths
pub mod Leaves
pub mod Flatpacks
pub mod Named
pub mod Hanging
