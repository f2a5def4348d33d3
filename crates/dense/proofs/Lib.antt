pub mod Made
pub mod Copied
