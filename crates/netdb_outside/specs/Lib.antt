pub mod Buffered
pub mod Contents
pub mod MemFiles
pub mod MemSink
pub mod Outside
pub mod Pieces
pub mod Reading
pub mod Visits
