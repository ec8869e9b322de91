pub mod Levels
pub mod States
pub mod Steps
pub mod Checks
