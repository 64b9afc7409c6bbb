-- The top of a valid design, and its notes.
use Rattle.std.proofs.Common.{◌≡◌, subst, Some}
use Rattle.std.specs.Prelude.{IfSome}
use Rattle.std.specs.List.{All}
use Rattle.netlist_schema.specs.Design.{Design}
use Rattle.netlist_schema.specs.Hierarchy.{IsCell, Resolves}
use Rattle.netlist_schema.specs.Names.{HasDistinctKeys}
use Rattle.netlist_schema.specs.Types.{Note, TopHead}
use Rattle.netlist_schema.specs.Valid.{IsNoteBelow, IsValid}

pub top_is_cell : (d : Design) → IsValid d → (top : TopHead) → d.top ≡ Some top → IsCell d top.cell
top_is_cell d valid top is = (subst (λ o. IfSome o (λ (t : TopHead). IsCell d t.cell × HasDistinctKeys t.properties)) is valid.top).0

pub notes_resolve : (d : Design) → IsValid d → (top : TopHead) → d.top ≡ Some top → All (λ (note : Note). Resolves d top.cell note.path) d.notes
notes_resolve d valid top is =
    let below = subst (λ o. IfSome o (λ (t : TopHead). All (IsNoteBelow d t.cell) d.notes)) is valid.notes in
    λ k note within. (below k note within).resolves
