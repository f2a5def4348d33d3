pub mod Buffers
pub mod Records
pub mod Rounds
pub mod Worked
