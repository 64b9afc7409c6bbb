use Rattle.std.proofs.Common.{◌≡◌, drop}
use Rattle.edif_spec.specs.Keyword.{keyword, first_spelled}
use Rattle.edif_keywords.proofs.table.keyword.Given as goal

-- the keywords that are left decide
abbrev pub invariant-loop-keyword : goal.invariant-loop-keyword
invariant-loop-keyword l = first_spelled l.name (drop l.keyword-index l.candidates) ≡ keyword l.name
