pub mod Calls
pub mod Tokens
pub mod Lines
pub mod Results
pub mod Judging
pub mod Scanned
pub mod Examples
pub mod Laws
