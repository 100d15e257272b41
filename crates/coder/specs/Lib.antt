pub mod Refusals
pub mod Misfits
pub mod Losses
pub mod Arrivals
pub mod Sizes
pub mod Kinds
pub mod Codes
