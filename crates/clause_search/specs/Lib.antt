pub mod Answers
pub mod Content
pub mod Layout
pub mod Loading
pub mod Solving
