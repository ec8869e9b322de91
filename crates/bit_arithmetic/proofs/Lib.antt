pub mod Moduli
pub mod Cases
pub mod Rows
pub mod Pairs
