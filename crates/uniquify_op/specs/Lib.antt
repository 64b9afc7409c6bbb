pub mod Frames
pub mod Marks
pub mod Visited
pub mod Walks
