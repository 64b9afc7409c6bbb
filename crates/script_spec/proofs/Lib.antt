-- Two ways to go on that take the same exchanges agree, line by line (OneSession).
-- A line is pieces. OneStep goes over the table of lines by what Spelled says of pieces of one shape.
mod BadLines
mod Fronts
mod OneReport
pub mod OneScript
mod OneSession
pub mod OneStep
mod Parallel
mod Places
mod ReadAlike
mod ReadLines
mod Retried
pub mod Settled
pub mod Spelled
pub mod Stays
mod Unique
pub mod Words
