pub mod Refusals
pub mod Offers
pub mod Replies
pub mod Replay
pub mod Searching
