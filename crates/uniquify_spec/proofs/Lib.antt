-- Uniquify and UniquePath are both splits: occurrences that keep their cell, and copies for others. What is shown of splits holds
-- of both.
-- In the own cell of an occurrence the same stands as before, but for the cells of the instances. So the designs before and after
-- a split are alike, and alike designs flatten alike.
-- Validity goes cell by cell (ValidCells) and directory by directory (ValidNames).
pub mod Agreed
pub mod AlikeItems
pub mod AlikeNets
pub mod AlikePaths
pub mod BlockSplit
pub mod CopyLists
pub mod CopyNames
pub mod ForCode
pub mod KeptCells
pub mod NewCells
pub mod PathSplit
pub mod SplitAgain
pub mod SplitAlike
pub mod SplitCells
pub mod SplitEdits
pub mod SplitLaws
pub mod SplitOrigins
pub mod SplitPlaces
pub mod SplitValid
pub mod SplitWhich
pub mod ValidCells
pub mod ValidNames
pub mod Reached
pub mod Unfolded
pub mod UniquifyLocal
pub mod UniquePathLocal
