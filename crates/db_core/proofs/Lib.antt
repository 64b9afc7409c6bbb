-- The stamps are the last writes. So what they find is the conflict of the definition. Where they find none, the laws of editing
-- make the replies those of the pinned version.
pub mod Pins
pub mod Shots
pub mod Steps
pub mod Commits
pub mod Opening
pub mod Staying
