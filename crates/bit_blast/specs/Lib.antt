pub mod Bits
pub mod Bitwise
pub mod Circuits
pub mod Laws
pub mod Operators
pub mod Shifts
