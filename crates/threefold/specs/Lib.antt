pub mod Threefold
pub mod Votes
pub mod Soundness
