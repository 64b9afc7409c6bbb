pub mod Calls
pub mod PinLines
pub mod HeldLines
pub mod Commits
pub mod Again
pub mod Standing
pub mod Whole
