-- Each step says what it reads whatever follows. So steps compose by one lemma, and the loop over a piece has one invariant.
-- A step is one byte; or a name that begins and ends in the piece, with the byte behind it; or all bytes in front that go on with
-- a word or a string; or the blanks between tokens.
pub mod CodeLemmas
pub mod CompleteLemmas
pub mod CutLemmas
pub mod StepLemmas
pub mod WordTable
