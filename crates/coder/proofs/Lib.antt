pub mod Distances
pub mod Octets
