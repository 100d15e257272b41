pub mod Blocks
pub mod Settings
pub mod Taken
pub mod Marks
