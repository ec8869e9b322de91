pub mod Passing
pub mod Apart
pub mod Deciding
pub mod Going
pub mod Running
pub mod Lawful
pub mod Literals
pub mod Ends
