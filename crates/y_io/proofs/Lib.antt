pub mod Growth
pub mod NameOrder
