pub mod Halving
pub mod Laws
pub mod Sheets
