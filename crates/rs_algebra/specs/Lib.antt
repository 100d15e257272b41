pub mod Polynomials
pub mod Words
