use Rattle.std.proofs.Common.{◌≡◌, Bool, map, take}
use Rattle.std.specs.Prelude.{filter}
use Rattle.netlist_schema.specs.Types.{Note}
use Rattle.eco_ops.proofs.insts.left_notes.Given as goal

-- the notes so far that stay
abbrev pub invariant-loop-place : goal.invariant-loop-place
invariant-loop-place l = (keep : Note → Bool) → l.others ≡ map keep l.items → l.left.items ≡ filter keep (take l.place l.items)
