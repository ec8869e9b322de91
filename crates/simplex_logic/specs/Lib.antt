pub mod Forms
pub mod Vectors
pub mod Tables
pub mod Limits
pub mod Pivoting
pub mod Quantities
pub mod Contradictions
pub mod Concretes
