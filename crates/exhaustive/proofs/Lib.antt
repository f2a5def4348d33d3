pub mod Branching
pub mod Frames
