-- A net's form stands for a row of nets. So the loop over nets keeps the forms beside the nets (`NetsSoFar`).
pub mod ContentsLemmas
pub mod EndLemmas
pub mod Followers
pub mod InsideLoops
pub mod InstLemmas
pub mod InstNames
pub mod KnownLemmas
pub mod NetLemmas
pub mod NetRows
pub mod RefLemmas
