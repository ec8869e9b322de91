pub mod Entries
pub mod Values
pub mod Firsts
pub mod Settling
pub mod Soundness
pub mod Widths
pub mod Pivoting
pub mod Adding
