pub mod Laid
pub mod Layers
pub mod Drafts
pub mod Make
pub mod Place
