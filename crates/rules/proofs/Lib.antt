pub mod Colouring
pub mod Inside
pub mod Notes
pub mod Lengths
