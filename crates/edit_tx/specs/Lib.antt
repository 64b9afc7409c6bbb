pub mod Facts
pub mod Inside
