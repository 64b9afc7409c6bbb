-- All that the operation does is gathered into one record, `Dissolves`, which speaks of both designs and not of lists any more.
-- On it stands what is shown of meetings, images and first nets, for every root.
-- A free name is found among as many numbers as there are taken names (`pigeons`, in `flat_spec`).
pub mod AfterLemmas
pub mod ApartLemmas
pub mod AtLemmas
pub mod BackLemmas
pub mod CarriedLemmas
pub mod ContentsLemmas
pub mod Cut
pub mod DissolveLemmas
pub mod DissolvedLemmas
pub mod DoneLemmas
pub mod EffectiveLemmas
pub mod EndLemmas
pub mod FrameLemmas
pub mod FreshLemmas
pub mod GroupLemmas
pub mod ImageLemmas
pub mod KeptLemmas
pub mod MapLemmas
pub mod NamesLemmas
pub mod OrderLemmas
pub mod PathLemmas
pub mod PinsLemmas
pub mod PlaceLemmas
pub mod ResolveLemmas
pub mod SoundLemmas
pub mod TopLemmas
pub mod TreeLemmas
pub mod ValidLemmas
pub mod Ways
