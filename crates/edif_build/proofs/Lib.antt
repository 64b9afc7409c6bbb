-- A loop over cells or libraries says of the libraries so far that the forms gone over mean them (`CellsAre`, `LibsAre`).
pub mod CellLemmas
pub mod FileLaws
pub mod FileLemmas
pub mod FileValid
pub mod FilterSteps
pub mod LevelLemmas
pub mod LibraryLemmas
pub mod NoteKeyLemmas
pub mod NoteLemmas
pub mod NotedLemmas
pub mod ReachedLemmas
pub mod TopLemmas
