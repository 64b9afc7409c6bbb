-- States while the paths of notes are gone along.
use Rattle.std.proofs.Common.{◌≡◌, ◌⊎◌, ◌↔◌, ◌++◌, ℕ, List, [], ◌∷◌, Option, Some, None, refl, sym, ap, subst}
use Rattle.std.specs.Option.{option_map}
use Rattle.std.specs.Prelude.{Err, MatchResult, Ok, Result}
use Rattle.netlist_schema.specs.Design.{Design}
use Rattle.netlist_schema.specs.Types.{CellId, Note, TopHead}
use Rattle.netlist_schema.specs.declared.ids.Object.TheVariants.{Notes}
use Rattle.edit_rules_spec.specs.Reading.{IsForNotes}
use Rattle.edit_cells.specs.Parts.{IsFace, IsInside}
use Rattle.edit_cells.specs.State.{State, HasRead, HasReadSome}
use Rattle.eco_reads.proofs.Reading.{read_then}
use Rattle.eco_reads.proofs.NoteReads.{some_after, no_top}
use Rattle.ungroup_op.specs.Crossing.{crossing, crossings}
use Rattle.ungroup_op.specs.Read.{IsForCell}

pub crossings_joined : (d : Design) (cell : CellId) (inst : List ℕ) (top : CellId) (notes more : List Note)
    → crossings d cell inst top (notes ++ more) ≡ crossings d cell inst top notes ++ crossings d cell inst top more
crossings_joined d cell inst top [] more = refl
crossings_joined d cell inst top (note ∷ notes) more = ap (λ v. crossing d cell inst top note.path ∷ v) (crossings_joined d cell inst top notes more)

-- ---- all notes, with and without a top

pub notes_alone : (s t : State) (cell : CellId) → None ≡ option_map (λ head. head.cell) s.design.top → HasRead s t (λ o. o ≡ Notes) → HasRead s t (IsForNotes s.design (Some cell) s.design.top)
notes_alone s t cell none read = subst (λ (top : Option TopHead). HasRead s t (IsForNotes s.design (Some cell) top)) (sym (no_top s.design.top none)) read

-- a cell is looked at from outside, and then inside
pub both_read : {T E : Type 0} (result : Result T E) (s t u : State) (of : Option CellId) (cell : CellId) → of ≡ Some cell → HasRead s t (IsFace cell)
    → MatchResult result (λ _. HasRead t u (IsInside cell)) (λ _. HasReadSome t u) → MatchResult result (λ _. HasRead s u (IsForCell of)) (λ _. HasReadSome s u)
both_read (Ok x) s t u of cell is face inside = read_then s t u (IsFace cell) (IsInside cell) (IsForCell of) face inside (λ o. subst (λ v. (IsFace cell o ⊎ IsInside cell o) ↔ IsForCell v o) (sym is) (λ x. x, λ x. x))
both_read (Err e) s t u of cell is face some = some_after s t u (IsFace cell) face some
