pub mod Formulas
pub mod Listing
pub mod Answers
pub mod Problems
pub mod Verdicts
pub mod Building
pub mod Lasting
