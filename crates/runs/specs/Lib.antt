pub mod State
pub mod Calls
pub mod Promise
pub mod Worked
