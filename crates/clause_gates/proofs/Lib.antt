pub mod Truths
pub mod Growth
pub mod Tables
pub mod Keeping
pub mod Switches
pub mod Folds
pub mod Carries
