pub mod Analysis
pub mod Changes
pub mod Levels
pub mod Shortening
pub mod Steps
pub mod View
pub mod Words
