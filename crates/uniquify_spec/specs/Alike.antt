-- Designs that differ in the cells behind their paths alone.
use Rattle.std.specs.Prelude.{◌≡◌, ℕ, List, Option, map, option_map, option_and_then, IfSome}
use Rattle.netlist_schema.specs.Design.{Design, cell_at}
use Rattle.netlist_schema.specs.Hierarchy.{NoCellIsBelowItself}
use Rattle.netlist_schema.specs.Types.{CellBody, CellId, Contents, Inst, Port}
use Rattle.flat_spec.specs.Paths.{cell_along}
use Rattle.uniquify_spec.specs.Erased.{erased_flattening, leaf_name}

-- an instance, and contents, that do not say of which cells the instances are
abbrev pub unplaced : Inst → Inst
unplaced inst = record inst { of = record { lib = record { 0 = 0 }; slot = 0 } }

abbrev pub all_unplaced : Contents → Contents
all_unplaced contents = record contents { insts = map unplaced contents.insts }

-- what stands in a cell, whatever it is called and whatever cells are placed in it
pub record Inside : Type 0 where
  pub ports : List Port
  pub contents : Option Contents

abbrev pub inside_of : CellBody → Inside
inside_of body = record { ports = body.ports; contents = option_map all_unplaced body.contents }

-- the same at the end of a path, where it leads to a cell
abbrev pub inside_along : Design → CellId → List ℕ → Option Inside
inside_along d c path = option_map inside_of (option_and_then (cell_at d) (cell_along d c path))

-- each path leads to cells in which the same stands, and to leaves of the same name
pub record AreAlikeBelow (d e : Design) (c k : CellId) : Type 0 where
  pub inside : (path : List ℕ) → inside_along d c path ≡ inside_along e k path
  pub leaves : (path : List ℕ) → option_map (leaf_name d) (cell_along d c path) ≡ option_map (leaf_name e) (cell_along e k path)

-- two designs with one top and the same notes, alike below the top
pub record AreAlike (d e : Design) : Type 0 where
  pub top : d.top ≡ e.top
  pub notes : d.notes ≡ e.notes
  pub below : IfSome d.top (λ top. AreAlikeBelow d e top.cell top.cell)

-- such designs have one flattening, up to the names of blocks
abbrev pub AlikeFlattenAlike : Type 0
AlikeFlattenAlike = (d e : Design) → NoCellIsBelowItself d → NoCellIsBelowItself e → AreAlike d e → erased_flattening d ≡ erased_flattening e
