use Rattle.std.proofs.Common.{◌≡◌, ◌∷◌, ◌++◌, drop}
use Rattle.edif_spec.specs.Canonical.{plain_text}
use Rattle.edif_names.specs.Parts.{Grows, body_text}
use Rattle.edif_names.proofs.strings.push_string.Given as goal

-- what was written and what is left to write make the whole
abbrev pub invariant-loop-byte : goal.invariant-loop-byte
invariant-loop-byte l = record {
  whole : l.out.items ++ body_text l.is_coded (drop l.byte-index l.text) ≡ l.fn.out.items ++ (34 ∷ plain_text l.text);
  grows : Grows l.fn.out.items l.out.items;
}
