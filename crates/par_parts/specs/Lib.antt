pub mod CountedGround
pub mod Counts
pub mod Items
pub mod Own
pub mod Skip
