pub mod Building
pub mod Lasting
pub mod Refusing
