-- Continuations over all later histories (`Resumes`) stand in place of lemmas on partial sessions.
-- At the end of a run no pin is live (JointPins). So the places that its history takes are its events.
pub mod Along
pub mod Blocks
pub mod Endings
mod Joined
mod JointPins
pub mod Named
pub mod OneLine
pub mod Pins
pub mod Places
pub mod Texts
