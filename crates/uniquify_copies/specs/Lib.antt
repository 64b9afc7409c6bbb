pub mod Changes
pub mod Drafts
pub mod Known
pub mod Seats
