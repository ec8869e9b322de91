pub mod Reach
pub mod Marking
