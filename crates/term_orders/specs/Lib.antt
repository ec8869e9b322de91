pub mod Orders
pub mod Ending
pub mod Walk
