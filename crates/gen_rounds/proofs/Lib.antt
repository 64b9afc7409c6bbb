pub mod Commits
pub mod Counted
pub mod Steps
pub mod Ends
