pub mod Blocks
pub mod Chains
pub mod Entering
pub mod Few
pub mod Instances
pub mod PathDone
pub mod PathPlanned
pub mod Walking
