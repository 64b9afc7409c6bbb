use Rattle.std.proofs.Common.{◌≡◌, ◌++◌, drop}
use Rattle.edif_names.specs.Parts.{Grows}
use Rattle.script_texts.specs.Parts.{behind}
use Rattle.script_texts.proofs.words.push_marked.Given as goal

-- what was written and what is left to write make the whole
abbrev pub invariant-loop-name : goal.invariant-loop-name
invariant-loop-name l = record {
  whole : l.out.items ++ behind l.mark (drop l.name-index l.names) ≡ l.fn.out.items ++ behind l.mark l.names;
  grows : Grows l.fn.out.items l.out.items;
}
