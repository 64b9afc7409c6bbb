-- A text that names a path leads to an occurrence (LeadLemmas). What is left of a list from a place on is its item there and what is left from
-- the next place on (ListLemmas).
mod AnswerLemmas
mod LeadLemmas
mod ListLemmas
