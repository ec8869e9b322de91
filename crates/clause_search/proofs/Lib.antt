pub mod Layers
pub mod Loads
pub mod Reductions
pub mod Rounding
pub mod Takes
