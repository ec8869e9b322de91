pub mod Holding
pub mod Verdict
pub mod Faulting
pub mod Unique
pub mod Reaching
pub mod Piecing
pub mod Scanning
