pub mod Scans
pub mod Written
pub mod Guarded
pub mod Laws
