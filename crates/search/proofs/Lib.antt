pub mod Advance
pub mod Offers
pub mod Answered
