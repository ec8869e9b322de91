pub mod Checking
pub mod Stacks
