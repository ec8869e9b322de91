pub mod Closed
pub mod Truths
pub mod Numbers
pub mod Words
pub mod Functions
