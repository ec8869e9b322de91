pub mod State
pub mod Calls
pub mod Told
pub mod Steps
pub mod Runs
pub mod Printing
