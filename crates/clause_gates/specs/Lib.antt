pub mod Bits
pub mod Built
pub mod Circuits
pub mod Defining
pub mod Gates
pub mod Laws
pub mod Layout
