pub mod Keys
pub mod Sketches
pub mod Valuing
