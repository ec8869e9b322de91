pub mod Cutting
pub mod Strings
pub mod Breaking
pub mod Bytewise
