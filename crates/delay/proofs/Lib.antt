pub mod Queues
pub mod Runs
pub mod Delays
pub mod Places
pub mod Rings
pub mod Turns
