-- The table stands in code as rows, whose meaning is the table of the definitions. An argument is told once: a token, or a form
-- by its keyword.
pub mod Apart
pub mod CheckLemmas
pub mod FormLemmas
pub mod KeywordLemmas
pub mod Misplaced
pub mod NodeForms
pub mod RuleLemmas
