pub mod Tables
pub mod Valuing
pub mod Verdicts
pub mod Naming
pub mod Records
pub mod Extending
pub mod Marking
pub mod Readings
