pub mod World
pub mod Changes
pub mod Start
pub mod Checking
pub mod Functions
pub mod Naming
