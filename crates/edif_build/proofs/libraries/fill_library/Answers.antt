use Rattle.std.proofs.Common.{◌≡◌, ℕ, List, [], length, sym, subst}
use Rattle.edif_spec.specs.Design as design
use Rattle.edif_contents.specs.Known.{KnownLibs}
use Rattle.edif_build.specs.Libraries.{CellsAre}
use Rattle.edif_build.proofs.libraries.fill_library.Goals as goal

pub add_cells-requires : goal.add_cells-requires
add_cells-requires c =
    let P : KnownLibs → Type 0 = λ v. (before : List design.Lib) × (head : design.LibHead) × (names : List (List ℕ × ℕ)) × CellsAre before head names [] v × (c.args.own ≡ length before) in
    subst P (sym c.room_for_cells.ensures) c.requires

pub returns : goal.returns
returns c = λ before head names k o.
    let P : KnownLibs → Type 0 = λ v. CellsAre before head names [] v in
    c.add_cells.ensures before head names (subst P (sym c.room_for_cells.ensures) k) o
