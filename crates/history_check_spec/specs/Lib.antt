pub mod Heads
pub mod Laws
pub mod Left
pub mod Printed
