-- The lists of an index go on by those of more instances (`HasAdded`), so one pass makes the index.
-- An index has just the users among some instances (`IsOver`). One use put in or taken out keeps that, since those before its
-- place come before it in order.
-- Lists stay in order, so a place is found by halves.
pub mod Adding
pub mod Entries
pub mod Keeping
pub mod Turning
pub mod Parting
pub mod Turned
pub mod Rising
pub mod After
pub mod Moving
pub mod Blank
