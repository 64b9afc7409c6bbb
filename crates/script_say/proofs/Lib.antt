pub mod WalkLines
