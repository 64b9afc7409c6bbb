use Rattle.std.proofs.Common.{◌≡◌, drop, nat_eq}
use Rattle.std.specs.Map.{lookup}
use Rattle.std.specs.Cmp.Lexicographic.{pointwise}
use Rattle.edif_parts.proofs.own_names.place_among.Given as goal

-- the names that are left decide
abbrev pub invariant-loop-entry : goal.invariant-loop-entry
invariant-loop-entry l = lookup (pointwise nat_eq l.name) (drop l.entry-index l.few) ≡ lookup (pointwise nat_eq l.name) l.few
