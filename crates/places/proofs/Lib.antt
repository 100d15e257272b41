pub mod Tallies
pub mod Places
pub mod Stretches
pub mod Search
pub mod Formulas
