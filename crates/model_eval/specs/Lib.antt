pub mod Models
pub mod Known
pub mod Words
pub mod Sums
pub mod Evaluating
pub mod Refusing
