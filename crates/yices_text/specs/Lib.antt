pub mod View
pub mod Sound
pub mod Laws
pub mod Reached
pub mod Waiting
pub mod Progress
