pub mod Story
pub mod Calls
pub mod Inside
