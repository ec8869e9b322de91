pub mod Bound
pub mod Clauses
pub mod Laws
pub mod Strength
pub mod Trails
