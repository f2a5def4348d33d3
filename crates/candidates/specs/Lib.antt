pub mod Sets
pub mod Order
pub mod Members
pub mod Walk
