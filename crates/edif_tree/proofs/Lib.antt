-- The tree at a node is a function of the nodes (`here`, `all`), since the arguments of a form stand before it. So contracts of
-- crates above speak of `here node` alone.
-- A node is loose until the form that it is an argument of is closed. Its tree is said of its row, which may stand anywhere (`IsRow`): at
-- the `)` the rows go behind the others side by side, and each tree stands at the node where its row then is (MakingLemmas).
-- Beside each word stands the keyword that it spells, so no form's name is compared (WordLemmas). SpelledLemmas leads from there to
-- the form at a node.
pub mod FaultSteps
pub mod HereLemmas
pub mod LentLemmas
pub mod MakerLemmas
pub mod MakingLemmas
pub mod NodeLemmas
pub mod NodeListLemmas
pub mod OneTree
pub mod OrderLemmas
pub mod RangeLemmas
pub mod ReadFaults
pub mod SpelledLemmas
pub mod StringLemmas
pub mod WordLemmas
