pub mod Places
pub mod Turns
pub mod Halving
pub mod Known
pub mod Meanings
