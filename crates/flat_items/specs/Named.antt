-- The places of instances that are kept by their identifiers.
use Rattle.std.specs.Prelude.{ℕ, List, Option, IfSome, nat_eq}
use Rattle.std.specs.BTreeMap.{get}
use Rattle.std.specs.Cmp.Lexicographic.{pointwise}
use Rattle.std.specs.Ordering.{nat_cmp, ordering_then}
use Rattle.std.specs.declared.cmp.Ordering.{Ordering}
use Rattle.indexmap.specs.IndexMap as by_hash
use Rattle.netlist_schema.specs.Design.{Design}
use Rattle.netlist_schema.specs.Hierarchy.{insts_at}
use Rattle.netlist_schema.specs.Types.{CellId, Inst}
use Rattle.flat_items.specs.Ways.{IsNameFound}
use Rattle.flat_items.specs.declared.named.NamedPlaces.{NamedPlaces}

-- the order of cells, by library and place
abbrev pub cell_cmp : CellId → CellId → Ordering
cell_cmp a b = ordering_then (nat_cmp a.lib.0 b.lib.0) (nat_cmp a.slot b.slot)

-- for each identifier this is the place of an instance that has it, or none has it
abbrev pub ArePlaces : List Inst → (List ℕ → Option ℕ) → Type 0
ArePlaces insts place = (name : List ℕ) → IsNameFound insts name (place name)

-- what is kept of a cell are the places of its instances
abbrev pub AreNamed : Design → NamedPlaces → Type 0
AreNamed d named = (c : CellId) → IfSome (get cell_cmp named.cells c) (λ places. ArePlaces (insts_at d c) (by_hash.get (pointwise nat_eq) places))
