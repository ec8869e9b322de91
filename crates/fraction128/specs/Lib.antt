pub mod Exact
pub mod Text
