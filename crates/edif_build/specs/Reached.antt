-- The names of the instances of cells that notes reach.
use Rattle.std.specs.Prelude.{◌≡◌, ℕ, List, Option, IfSome}
use Rattle.edif_spec.specs.Design as design
use Rattle.edif_parts.specs.Names.{ids}

-- what stands for a cell are the names of its instances
abbrev pub AreNamesAt : List design.Lib → (design.CellId → Option (List (List ℕ × ℕ))) → Type 0
AreNamesAt libs names = (id : design.CellId) → IfSome (names id) (λ ns. ids ns ≡ design.inst_ids (design.insts_at libs id))
