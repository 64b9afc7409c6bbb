-- A name that is found by halving stands at its place, since names in a cell differ; one that is not found would compare as equal at its
-- place (OrderLemmas). A text and a path go by their names: the text has just the names of the path (TextLemmas), and these lead along just
-- that path (AlongLemmas).
pub mod AlongLemmas
pub mod IndexLemmas
pub mod OrderLemmas
pub mod TextLemmas
pub mod ToldLemmas
