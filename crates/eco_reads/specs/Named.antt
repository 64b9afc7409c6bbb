-- The places of instances that are kept by their names.
use Rattle.std.specs.Prelude.{◌≡◌, ℕ, List, IfSome, nat_eq}
use Rattle.std.specs.BTreeMap.{get}
use Rattle.std.specs.Cmp.Lexicographic.{pointwise}
use Rattle.indexmap.specs.IndexMap as by_hash
use Rattle.netlist_schema.specs.Design.{Design}
use Rattle.netlist_schema.specs.Hierarchy.{insts_at}
use Rattle.netlist_schema.specs.Order.{cell_cmp}
use Rattle.netlist_schema.specs.Types.{CellId}
use Rattle.edit_rules_spec.specs.Find.{inst_place}
use Rattle.eco_reads.specs.declared.named.NamedInsts.{NamedInsts}

-- what is kept of a cell are the places of its instances
abbrev pub AreNamed : Design → NamedInsts → Type 0
AreNamed d named =
    (cell : CellId) → IfSome (get cell_cmp named.cells cell) (λ places. (name : List ℕ) → by_hash.get (pointwise nat_eq) places name ≡ inst_place name (insts_at d cell))
