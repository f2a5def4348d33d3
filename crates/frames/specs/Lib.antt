pub mod Stacks
pub mod Shown
pub mod Branches
pub mod View
