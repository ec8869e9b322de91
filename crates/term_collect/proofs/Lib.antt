pub mod Slots
pub mod Handles
pub mod Living
pub mod Sets
pub mod Worklist
pub mod Leaving
pub mod Listed
pub mod Keeping
