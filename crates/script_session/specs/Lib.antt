pub mod State
pub mod CallTable
pub mod Asking
pub mod Replies
pub mod Steps
pub mod Doing
pub mod Runs
