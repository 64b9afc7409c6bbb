pub mod Facts
pub mod Fields
pub mod Kept
pub mod Showing
pub mod Walking
