-- A pass over the nets that lowers no label leaves nets that meet with one label. Then along a chain of neighbours each label is
-- the place of the representative.
pub mod LabelLemmas
pub mod MeetLemmas
pub mod SettledLemmas
pub mod ItemLemmas
pub mod PinLemmas
pub mod TableLemmas
pub mod WalkLemmas
