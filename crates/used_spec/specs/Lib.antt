pub mod ExampleUsed
pub mod Kept
pub mod HeadUses
pub mod Laws
pub mod Lines
pub mod Named
pub mod Uses
pub mod UsesReports
