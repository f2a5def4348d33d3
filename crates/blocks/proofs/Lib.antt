pub mod Numbers
pub mod Sums
pub mod Asked
pub mod Parts
pub mod Accepted
