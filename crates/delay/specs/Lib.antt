pub mod Queues
pub mod Triangles
pub mod Runs
pub mod Answers
