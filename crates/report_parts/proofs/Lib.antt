pub mod Comparing
pub mod Heading
pub mod Sinks
