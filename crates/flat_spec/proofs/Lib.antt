-- A subtree's connection is embedded in the tree above it under a step.
-- The worked examples but the tower compute by `refl`, with `representative`, `occurrences` and `tree` unfolded.
pub mod BelowLemmas
pub mod BitLemmas
pub mod ChainLemmas
pub mod ConnectionLemmas
pub mod FirstLemmas
pub mod HandedDownLemmas
pub mod ListLemmas
pub mod OccurrenceLemmas
pub mod PathLemmas
pub mod PinLemmas
pub mod ReachLemmas
pub mod RepresentativeLemmas
pub mod RunLemmas
pub mod TestLemmas
pub mod TowerLemmas
pub mod TreeLemmas
