pub mod Lowered
pub mod Directories
pub mod Inside
pub mod Shot
pub mod Shelves
pub mod Changes
