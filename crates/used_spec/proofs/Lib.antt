-- The cells of a design ascend, and so do the instances in them, and hence the uses of a cell.
-- A kept cell stands at its new id, and each cell of the kept design comes from one (KeptCells). Validity and the flattening go
-- from there.
pub mod KeptAgain
pub mod KeptCells
pub mod KeptNamed
pub mod KeptValid
pub mod Entries
pub mod InOrder
pub mod NamedItems
pub mod Numbered
pub mod Renumbered
