pub mod Copies
pub mod Nearest
