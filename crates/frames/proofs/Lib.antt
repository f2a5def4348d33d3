pub mod Items
pub mod Frames
