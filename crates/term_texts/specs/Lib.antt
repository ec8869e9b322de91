pub mod TypeTexts
pub mod TermTexts
pub mod Gaps
