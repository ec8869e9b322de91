pub mod Nodes
pub mod Shapes
pub mod Gates
pub mod Encoding
pub mod Laws
