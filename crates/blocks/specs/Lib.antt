pub mod Bytes
pub mod Faults
pub mod Format
pub mod Questions
