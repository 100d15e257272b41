pub mod Blocks
pub mod Senders
pub mod Receivers
pub mod Histories
pub mod Theorem
