pub mod Finishing
pub mod Judging
pub mod Lengths
pub mod Replaying
pub mod Seating
pub mod Wholes
