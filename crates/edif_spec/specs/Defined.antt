-- Cells that are defined before they are placed.
use Rattle.std.specs.Prelude.{[], ◌∷◌, ◌++◌, IsSome}
use Rattle.std.specs.List.{AllByRecursion}
pub use Rattle.netlist_order_spec.specs.After.{AllAfter}
use Rattle.edif_spec.specs.Design as design

-- Each cell that is placed is defined before the cell that places it.
abbrev pub DefinedBefore : design.Design → Type 0
DefinedBefore d = AllAfter (λ before l. AllAfter (λ cells c.
    AllByRecursion (λ i. IsSome (design.cell_at (before ++ record { head = l.head; cells = cells } ∷ []) i.of)) (design.insts_of c)) [] l.cells) [] d.libs
