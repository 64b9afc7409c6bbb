pub mod After
pub mod InTime
pub mod Order
