-- The rule is one record (`IsKept`). A lemma for each kind of step keeps it (Keeps).
pub mod Calls
pub mod Facts
pub mod Keeps
pub mod Line
pub mod Logs
pub mod Rows
pub mod Same
pub mod Views
pub mod Works
