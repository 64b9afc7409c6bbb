mod FoldedLemmas
mod PlainLemmas
mod ScopeLemmas
