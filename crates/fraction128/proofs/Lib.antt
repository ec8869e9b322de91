pub mod Parts
pub mod Exactly
pub mod Narrow
pub mod Turns
