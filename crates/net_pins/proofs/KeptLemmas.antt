-- What is kept for one role, and the pins that are asked of it.
use Rattle.std.proofs.Common.{◌≡◌, List, ap, get_or, inl, inr, subst, sym}
use Rattle.std.specs.Prelude.{IfSome, filter}
use Rattle.std.specs.List.{All}
use Rattle.std.proofs.lemmas.List.{get_or_default}
use Rattle.netlist_schema.specs.Design.{Design}
use Rattle.netlist_schema.specs.Hierarchy.{IsBelow, IsCell, deeper, placed}
use Rattle.netlist_schema.specs.Names.{HasDistinctKeys}
use Rattle.netlist_schema.specs.Types.{CellId, TopHead}
use Rattle.netlist_schema.specs.Valid.{IsValid}
use Rattle.flat_cells.specs.Below.{AreCellsBelow}
use Rattle.flat_cells.proofs.ListedLemmas.{inst_there}
use Rattle.flat_spec.specs.Flattening.{flattening}
use Rattle.flat_spec.specs.Types.{NetAt}
use Rattle.erc_spec.specs.Drives.{is_at}
use Rattle.ask_spec.specs.Nets.{first_of}
use Rattle.ask_spec.specs.Roles.{is_driver, is_load, pins_as}
use Rattle.ask_spec.specs.declared.role.Role.{Role}
use Rattle.ask_spec.specs.declared.role.Role.TheVariants.{Any, Driver, Load}
use Rattle.net_classes.specs.Facts.{Facts}
use Rattle.flat_items.specs.declared.notes.PlacedNotes.{PlacedNotes}
use Rattle.flat_items.specs.Stand.{IsGround, top_of}

-- the cells at and below the top are cells of the design
below_is_cell : (d : Design) → IsValid d → {inner outer : CellId} → IsBelow d inner outer → IsCell d inner
below_is_cell d valid (placed {id} inst has) = (inst_there d id inst valid has).0
below_is_cell d valid (deeper {inner} {id} inst has below) = below_is_cell d valid below

pub top_is_cell : (d : Design) (facts : Facts) (notes : PlacedNotes) → IsGround d facts notes → IsCell d (top_of d).cell
top_is_cell d facts notes ground = (subst (λ o. IfSome o (λ (top : TopHead). IsCell d top.cell × HasDistinctKeys top.properties)) ground.top ground.valid.top).0

pub all_there : (d : Design) (facts : Facts) (notes : PlacedNotes) → IsGround d facts notes → (below : List CellId) → AreCellsBelow d (top_of d).cell below → All (IsCell d) below
all_there d facts notes ground below are = λ k default within.
    let c : CellId = get_or below k default in
    elim ((are.each c).0 (k, within, get_or_default below k c default within)) [
      | inl same ↦ subst (λ v. IsCell d v) (sym same) (top_is_cell d facts notes ground)
      | inr inside ↦ below_is_cell d ground.valid inside
    ]

-- nets with one first net have the same pins
pub asked_same : (role : Role) (d : Design) (x y : NetAt) → first_of d x ≡ first_of d y → pins_as role d x ≡ pins_as role d y
asked_same Any d x y same = ap (λ v. filter (is_at v) (flattening d)) same
asked_same Driver d x y same = ap (λ v. filter (is_driver d) (filter (is_at v) (flattening d))) same
asked_same Load d x y same = ap (λ v. filter (is_load d) (filter (is_at v) (flattening d))) same
