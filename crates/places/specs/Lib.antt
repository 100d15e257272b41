pub mod Line
pub mod Limit
