use Rattle.std.proofs.Common.{◌≡◌, ◌++◌, drop, not}
use Rattle.std.specs.Prelude.{filter}
use Rattle.edif_spelling_spec.specs.Names.{is_empty}
use Rattle.script_words.specs.Reading.{lent}
use Rattle.script_reader.proofs.line.push_filled.Given as goal

-- the words so far and the parts that are left, without empty ones, make the whole
abbrev pub invariant-loop-part : goal.invariant-loop-part
invariant-loop-part l =
    lent l.words.items ++ filter (λ word. not (is_empty word)) (lent (drop l.part-index l.parts))
    ≡ lent l.fn.words.items ++ filter (λ word. not (is_empty word)) (lent l.parts)
