pub mod Held
pub mod Pushing
pub mod Marking
