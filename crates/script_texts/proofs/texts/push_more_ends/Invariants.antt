use Rattle.std.proofs.Common.{◌≡◌, ◌++◌, drop}
use Rattle.edif_names.specs.Parts.{Grows}
use Rattle.script_texts.specs.Parts.{more_ends}
use Rattle.script_texts.proofs.texts.push_more_ends.Given as goal

-- what was written and what is left to write make the whole
abbrev pub invariant-loop-end : goal.invariant-loop-end
invariant-loop-end l = record {
  whole : l.out.items ++ more_ends (drop l.end-index l.ends) ≡ l.fn.out.items ++ more_ends l.ends;
  grows : Grows l.fn.out.items l.out.items;
}
