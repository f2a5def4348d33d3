pub mod Bits
pub mod Chains
pub mod Marks
pub mod Order
pub mod Sets
pub mod Walk
pub mod Written
