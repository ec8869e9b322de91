pub mod Numbers
pub mod Lists
pub mod Sums
pub mod Rows
pub mod Orders
pub mod Quotients
pub mod Moves
pub mod Signs
