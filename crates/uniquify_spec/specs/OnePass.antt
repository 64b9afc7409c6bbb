-- What a program that makes the copies can rest on: it goes over the occurrences once.
use Rattle.std.specs.Prelude.{◌≡◌, not, List, ◌∷◌, ◌++◌}
use Rattle.std.specs.List.{list_any}
use Rattle.netlist_schema.specs.Design.{Design}
use Rattle.netlist_schema.specs.Types.{CellId}
use Rattle.netlist_schema.specs.Valid.{IsValid}
use Rattle.edit_rules_spec.specs.Paths.{same_cell}
use Rattle.flat_spec.specs.Occurrences.{Occurrence}
use Rattle.uniquify_spec.specs.Blocks.{blocks_below, is_first}
use Rattle.uniquify_spec.specs.Copies.{Copy, copies_after}

-- copies for more occurrences go on behind those before
abbrev pub CopiesGoOn : Type 0
CopiesGoOn = (d : Design) (before : List Copy) (os more : List Occurrence)
    → copies_after d before (os ++ more) ≡ copies_after d before os ++ copies_after d (before ++ copies_after d before os) more

-- an occurrence is the first of its cell where none before it has the cell
abbrev pub FirstsHaveNoneBefore : Type 0
FirstsHaveNoneBefore = (d : Design) (top : CellId) (before after : List Occurrence) (o : Occurrence) → IsValid d → blocks_below d top ≡ before ++ o ∷ after
    → is_first (blocks_below d top) o ≡ not (list_any (λ other. same_cell other.cell o.cell) before)
