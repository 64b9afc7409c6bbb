-- A call is three steps: it takes the turn, the core answers, and it gives the turn back. Turns joins them, for an event
-- (`makes`) and for none (`looks`).
-- All events of a pass's own number are known to it. So a pin that it has not released is live in every log that goes on from
-- what it has seen (`pin_at_log`). The core asks this of a release and of a commit.
pub mod Own
pub mod Held
pub mod Turns
pub mod Answered
pub mod Opened
pub mod Keeping
pub mod AllPasses
