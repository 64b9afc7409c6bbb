-- That the names which are handed down are the representatives goes by the two cases of HandedDownLemmas, in `flat_spec`.
mod HandLemmas
pub mod NameLemmas
mod SearchLemmas
