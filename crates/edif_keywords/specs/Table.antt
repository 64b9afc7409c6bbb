-- The keywords by the length of their spellings.
use Rattle.std.specs.Prelude.{ℕ, List, length, filter, nat_eq}
use Rattle.edif_spec.specs.Keyword.{all_keywords, spelling_of}
use Rattle.edif_spec.specs.declared.keyword.Keyword.{Keyword}

-- those whose spelling is so long
abbrev pub as_long : ℕ → List Keyword
as_long n = filter (λ k. nat_eq (length (spelling_of k)) n) all_keywords
