-- Paths by identifiers and by steps.
use Rattle.std.specs.Prelude.{◌≡◌, ℕ, List, Option, Some, None, slice_get}
use Rattle.std.specs.List.{Contains}
use Rattle.netlist_schema.specs.Design.{Design}
use Rattle.netlist_schema.specs.Types.{CellId, Inst}
use Rattle.flat_spec.specs.Effective.{names_along}
use Rattle.flat_spec.specs.Paths.{Reaches}

-- the instance with the identifier stands at that place; none where no instance has it
abbrev pub IsNameFound : List Inst → List ℕ → Option ℕ → Type 0
IsNameFound insts name None = (inst : Inst) → Contains insts inst → inst.name.id ≡ name → ⊥
IsNameFound insts name (Some place) = (inst : Inst) × (slice_get insts place ≡ Some inst) × (inst.name.id ≡ name)

-- the steps lead along instances with these identifiers
pub record IsWay (d : Design) (c : CellId) (names : List (List ℕ)) (steps : List ℕ) : Type 0 where
  pub end : CellId
  pub reached : Reaches d c steps end
  pub named : names_along d c steps ≡ names
