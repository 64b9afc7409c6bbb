-- Each version comes from the one before. So `same_value` and `replayed` follow from the laws of editing.
-- A cell that operations read and that is not in the version was made by one of them, which read the directory. The commit that
-- made it elsewhere wrote the directory: so the directory clashes, and it is less.
pub mod Faces
pub mod Histories
pub mod Inside
pub mod Kept
pub mod Lists
pub mod Made
pub mod Needed
pub mod OneAnswer
pub mod Pinned
pub mod Promised
pub mod Read
pub mod Refused
pub mod Rooms
pub mod Sound
pub mod Staying
pub mod Total
pub mod Versions
