use Rattle.std.proofs.Common.{nat_eq}
use Rattle.std.specs.Cmp.Lexicographic.{pointwise}
use Rattle.indexmap.specs.IndexMap.{get}
use Rattle.flat_items.proofs.NamedLemmas.{ArePlacesBelow}
use Rattle.flat_items.proofs.named.places_of.Given as goal

abbrev pub invariant-loop-place : goal.invariant-loop-place
invariant-loop-place l = ArePlacesBelow l.insts l.place (get (pointwise nat_eq) l.places)
