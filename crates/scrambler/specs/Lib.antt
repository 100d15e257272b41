pub mod Bits
pub mod Scrambler
pub mod Laws
pub mod States
