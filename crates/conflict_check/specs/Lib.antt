pub mod Commits
pub mod Inside
pub mod Marks
