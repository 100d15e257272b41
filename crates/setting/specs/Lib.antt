pub mod Relations
pub mod Settings
pub mod Answers
