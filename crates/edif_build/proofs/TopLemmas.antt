-- What is wrong with the notes of a design.
use Rattle.std.proofs.Common.{◌≡◌, List, inl, inr, None, Some}
use Rattle.std.specs.Prelude.{slice_get, filter}
use Rattle.edif_spelling_spec.specs.Tree.{Placed, bare}
use Rattle.edif_spec.specs.Design as design
use Rattle.edif_spec.specs.Faults.{arguments, followers}
use Rattle.edif_spec.specs.Means.{MeansCellRef, is_note}
use Rattle.edif_spec.specs.Stands.{DesignFault}
use Rattle.edif_spec.specs.Stands as stands
use Rattle.edif_spec.specs.declared.keyword.Keyword.TheVariants as keywords
use Rattle.edif_spec.specs.declared.fault.MeaningFault.{MeaningFault}
use Rattle.edif_build.specs.Notes.{NotesFail}

-- is wrong with the design, where its cell is meant
pub notes_fail : (libs : List design.Lib) (t u : Placed) (top : design.CellId) (f : MeaningFault) → slice_get (arguments t) 1 ≡ Some u → MeansCellRef libs None (bare u) top
    → NotesFail libs top (filter (λ u. is_note (bare u)) (followers keywords.Design t)) f → DesignFault libs t f
notes_fail libs t u top f g m (inl (inl b)) = stands.design_notes (stands.one_note top (u, g, m) b)
notes_fail libs t u top f g m (inl (inr b)) = stands.design_notes (stands.note_again top (u, g, m) b)
notes_fail libs t u top f g m (inr b) = stands.many_notes b
