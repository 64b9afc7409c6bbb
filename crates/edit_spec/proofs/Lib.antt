-- A file of each operation's name shows that the operation is local; of uniquify and ungroup this stands in the crates below. Local
-- gathers them, and the laws come from there.
-- That a valid design stays valid goes by kind of change. Against cycles there is a rank of levels (Levels, in
-- `edit_rules_spec`).
pub mod AddCell
pub mod AddInst
pub mod AddNet
pub mod Changed
pub mod Changes
pub mod Cut
pub mod DropInst
pub mod DropNet
pub mod DropNote
pub mod DropValid
pub mod Example
pub mod Framed
pub mod Full
pub mod InsideStep
pub mod InstValid
pub mod Join
pub mod JoinValid
pub mod Joined
pub mod Local
pub mod NewCellValid
pub mod Overlaid
pub mod Replayed
pub mod SetNote
pub mod SetProp
pub mod ShowCell
pub mod ShowInst
pub mod ShowNet
pub mod Shown
pub mod ShownWhole
pub mod Ungrouped
pub mod Valid
pub mod Values
