pub mod Listing
pub mod Summing
pub mod Granting
pub mod Searches
