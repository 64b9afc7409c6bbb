pub mod AlongLemmas
pub mod ClimbLemmas
pub mod CountLemmas
pub mod JoinedLemmas
pub mod PlaceLemmas
mod WayLemmas
