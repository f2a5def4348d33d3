pub mod Branches
pub mod Explored
