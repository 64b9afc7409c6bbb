use Rattle.std.proofs.Common.{◌≡◌, ℕ, List, nat_eq, take}
use Rattle.std.specs.Cmp.Lexicographic.{pointwise}
use Rattle.edit_rules_spec.specs.Find.{inst_place}
use Rattle.indexmap.specs.IndexMap.{get}
use Rattle.eco_reads.proofs.places.places_by_name.Given as goal

abbrev pub invariant-loop-place : goal.invariant-loop-place
invariant-loop-place l = (q : List ℕ) → get (pointwise nat_eq) l.places q ≡ inst_place q (take l.place l.insts)
