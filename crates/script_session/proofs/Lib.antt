pub mod Running
pub mod Forms
pub mod Meanings
pub mod Texts
pub mod Unique
pub mod Doings
pub mod Faults
pub mod Existing
