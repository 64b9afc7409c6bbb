-- The cells of a design, each behind the cells of its instances.
use Rattle.std.specs.Prelude.{◌≡◌, ◌⊎◌, ◌↔◌, ℕ, zero, suc, List, [], ◌++◌, map}
use Rattle.std.specs.List.{Contains}
use Rattle.netlist_schema.specs.Design.{Design, cells_in}
use Rattle.netlist_schema.specs.Hierarchy.{HasInst, IsBelow, IsCell}
use Rattle.netlist_schema.specs.Types.{CellId, Inst, LibId}
use Rattle.netlist_order_spec.specs.After.{AllAfter}
use Rattle.netlist_order_spec.specs.Order.{order_of}

-- the cell is the top or below it
abbrev pub IsAtOrBelow : Design → CellId → CellId → Type 0
IsAtOrBelow d top c = (c ≡ top) ⊎ IsBelow d c top

-- the cell is not among those before it, and the cells of its instances are
pub record ComesBehind (d : Design) (before : List CellId) (c : CellId) : Type 0 where
  pub new : ¬ Contains before c
  pub children : (inst : Inst) → HasInst d c inst → Contains before inst.of

-- the cells at or below the top, each once, behind the cells of its instances
pub record AreCellsBelow (d : Design) (top : CellId) (cells : List CellId) : Type 0 where
  pub each : (c : CellId) → Contains cells c ↔ IsAtOrBelow d top c
  pub behind : AllAfter (ComesBehind d) [] cells

-- the cells of a library, in the order in which children come first
abbrev pub cells_of : Design → LibId → List CellId
cells_of d lib = map (λ slot. record { lib = lib; slot = slot }) (order_of lib.0 (cells_in d lib))

-- those of the first so many libraries
abbrev pub cells_upto : Design → ℕ → List CellId
cells_upto d zero = []
cells_upto d (suc n) = cells_upto d n ++ cells_of d (record { 0 = n })

-- all cells of a design, each once, behind the cells of its instances
pub record AreCells (d : Design) (cells : List CellId) : Type 0 where
  pub whole : (c : CellId) → IsCell d c → Contains cells c
  pub behind : AllAfter (ComesBehind d) [] cells
