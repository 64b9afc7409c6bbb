-- An operation is its refusals, its reply and a list of changes. So the laws of agreement are shown once for changes (Edits,
-- Growing, Closed), and once for every rule that is `IsLocal` (Framed).
-- What a change writes is there afterwards, since a change finds what it changes.
pub mod Closed
pub mod Edits
pub mod Filled
pub mod Framed
pub mod Growing
pub mod InnerValid
pub mod Levels
pub mod Lists
pub mod MoreCell
pub mod Named
pub mod Numbers
pub mod Overlaid
pub mod Positions
pub mod Reached
pub mod Refusals
pub mod Same
pub mod There
pub mod Values
pub mod Written
