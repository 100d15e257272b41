pub mod Bits
pub mod Scrambling
pub mod Laws
pub mod Steps
pub mod States
pub mod Loops
