pub mod Judged
pub mod Striking
pub mod Laws
pub mod Moves
