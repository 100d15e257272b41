pub mod Numbers
pub mod Facts
