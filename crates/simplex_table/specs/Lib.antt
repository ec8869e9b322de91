pub mod Causes
pub mod View
pub mod Inside
pub mod Values
pub mod Columns
