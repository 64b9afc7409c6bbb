use Rattle.std.proofs.Common.{◌≡◌, ◌++◌, drop, map}
use Rattle.edif_names.specs.Parts.{Grows}
use Rattle.edif_spec.specs.PropertyText.{property_text}
use Rattle.script_texts.specs.Parts.{behind_blanks}
use Rattle.script_texts.proofs.words.push_shown.Given as goal

-- what was written and what is left to write make the whole
abbrev pub invariant-loop-property : goal.invariant-loop-property
invariant-loop-property l = record {
  whole : l.out.items ++ behind_blanks (map property_text (drop l.property-index l.properties)) ≡ l.fn.out.items ++ behind_blanks (map property_text l.properties);
  grows : Grows l.fn.out.items l.out.items;
}
