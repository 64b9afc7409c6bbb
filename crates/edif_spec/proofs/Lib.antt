-- The text of a design is `layout` of `tree_of`. So the law of reading back falls into halves: a layout spells its tree, and the
-- tree means its design. A layout is shown with what follows it, so layouts compose.
-- FromValid turns validity, which speaks of places, into recursion on lists. Arrange carries validity through the renumbering of
-- cells.
-- A fault and a meaning exclude each other form by form, since both go by the same rows.
-- That one of them stands is shown by deciding each part of a row from the front of its list, and validity last.
-- That a fault tells of what is there goes through the cases of each form once more. Two nets that give one name are two forms,
-- since the names of one row differ. Two ends of one row that mean one bit are two forms, since each is a whole port where the
-- row has several nets.
pub mod Arrange
pub mod ArrangeOrder
pub mod Both
pub mod BytesLemmas
pub mod CellFaultsApart
pub mod CellPlaces
pub mod ContentsMeanings
pub mod Defined
pub mod FaultExamples
pub mod FaultForms
pub mod FaultPlaces
pub mod FaultsApart
pub mod FileFaultsApart
pub mod Files
pub mod Fine
pub mod Followers
pub mod FromValid
pub mod Groups
pub mod KnownCells
pub mod KnownDesigns
pub mod KnownFile
pub mod KnownForms
pub mod KnownRows
pub mod KnownValid
pub mod Layouts
pub mod Meanings
pub mod NetFaultsApart
pub mod Once
pub mod OnceFile
pub mod Order
pub mod ReadBack
pub mod RowForms
pub mod SameLemmas
pub mod Scopes
pub mod SpelledTrees
pub mod StringLemmas
pub mod ToldForms
pub mod ToldLemmas
pub mod ValidForms
pub mod Whole
pub mod WrittenNets
