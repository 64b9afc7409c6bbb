use Rattle.std.proofs.Common.{◌≡◌, ◌++◌, drop}
use Rattle.script_ops.specs.Pieces.{AreNames}
use Rattle.script_words.specs.Reading.{lent}
use Rattle.script_ops.proofs.pieces.names.Given as goal

-- the identifiers so far and the parts that are left make the whole, and the parts are identifiers where those left are
abbrev pub invariant-loop-part : goal.invariant-loop-part
invariant-loop-part l = record {
  same : l.ids.items ++ lent (drop l.part-index l.parts) ≡ lent l.parts;
  names : AreNames (lent (drop l.part-index l.parts)) → AreNames (lent l.parts);
  back : AreNames (lent l.parts) → AreNames (lent (drop l.part-index l.parts));
}
