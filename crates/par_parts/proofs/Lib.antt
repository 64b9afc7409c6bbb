pub mod CountLemmas
pub mod ListLemmas
pub mod PassLemmas
pub mod RoomLemmas
pub mod SizeLemmas
