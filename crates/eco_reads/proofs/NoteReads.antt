-- States while the paths of notes are gone along.
use Rattle.std.proofs.Common.{◌≡◌, ◌⊎◌, ◌↔◌, ◌++◌, inl, inr, ⊎_elim, List, [], ◌∷◌, Option, Some, None, refl, sym, subst, ◌∙◌}
use Rattle.std.specs.Option.{option_map}
use Rattle.netlist_schema.specs.Design.{Design}
use Rattle.netlist_schema.specs.Types.{CellId, Note, Object, TopHead}
use Rattle.netlist_schema.specs.declared.ids.Object.TheVariants.{Notes}
use Rattle.edit_rules_spec.specs.Reading.{IsForNotes, IsReached, IsReachedBy}
use Rattle.edit_cells.specs.State.{State, HasRead, HasReadSome}
use Rattle.edit_cells.proofs.Growing.{prefix_twice}
use Rattle.eco_reads.proofs.Reading.{read_then}

pub reached_joined : (d : Design) (top : CellId) (notes more : List Note) (o : Object) → (IsReachedBy d top notes o ⊎ IsReachedBy d top more o) ↔ IsReachedBy d top (notes ++ more) o
reached_joined d top [] more o = (λ is. ⊎_elim (λ (never : ⊥). absurd never) (λ (m : IsReachedBy d top more o). m) is, λ is. inr is)
reached_joined d top (note ∷ notes) more o =
    let rest = reached_joined d top notes more o in (
      λ is. ⊎_elim
          (λ (one : IsReached d top note.path o ⊎ IsReachedBy d top notes o). ⊎_elim (λ (e : IsReached d top note.path o). inl e) (λ (es : IsReachedBy d top notes o). inr (rest.0 (inl es))) one)
          (λ (m : IsReachedBy d top more o). inr (rest.0 (inr m))) is,
      λ is. ⊎_elim
          (λ (e : IsReached d top note.path o). inl (inl e))
          (λ (es : IsReachedBy d top (notes ++ more) o). ⊎_elim (λ (x : IsReachedBy d top notes o). inl (inr x)) (λ (m : IsReachedBy d top more o). inr m) (rest.1 es)) is,
    )

pub one_note_more : (s u v : State) (top : CellId) (notes : List Note) (note : Note) → HasRead s u (IsReachedBy s.design top notes) → HasRead u v (IsReached u.design top note.path)
    → HasRead s v (IsReachedBy s.design top (notes ++ note ∷ []))
one_note_more s u v top notes note first second =
    read_then s u v (IsReachedBy s.design top notes) (IsReached s.design top note.path) (IsReachedBy s.design top (notes ++ note ∷ [])) first
    (subst (λ (d : Design). HasRead u v (IsReached d top note.path)) first.design second)
    (λ o. let joined = reached_joined s.design top notes (note ∷ []) o in (
      λ is. joined.0 (⊎_elim (λ (x : IsReachedBy s.design top notes o). inl x) (λ (e : IsReached s.design top note.path o). inr (inl e)) is),
      λ is. ⊎_elim (λ (x : IsReachedBy s.design top notes o). inl x) (λ (m : IsReached s.design top note.path o ⊎ ⊥). ⊎_elim (λ (e : IsReached s.design top note.path o). inr e) (λ (never : ⊥). absurd never) m) (joined.1 is),
    ))

pub some_after : (s u v : State) (P : Object → Type 0) → HasRead s u P → HasReadSome u v → HasReadSome s v
some_after s u v P read some = record {
  base = some.base ∙ read.base;
  design = some.design ∙ read.design;
  written = some.written ∙ read.written;
  prefix = prefix_twice s.reads u.reads v.reads read.reads.prefix some.prefix;
}

-- ---- all notes, with and without a top

pub no_top : (o : Option TopHead) → None ≡ option_map (λ head. head.cell) o → o ≡ None
no_top None is = refl
no_top (Some head) is = absurd (cc is)

pub some_top : (o : Option TopHead) (top : CellId) → Some top ≡ option_map (λ head. head.cell) o → (head : TopHead) × (o ≡ Some head) × (head.cell ≡ top)
some_top None top is = absurd (cc is)
some_top (Some head) top is = (head, refl, sym (cc is))

pub notes_and_paths : (s t u : State) (cell top : CellId) (notes : List Note) → Some top ≡ option_map (λ head. head.cell) s.design.top → HasRead s t (λ o. o ≡ Notes) → notes ≡ s.design.notes
    → HasRead t u (IsReachedBy t.design top notes) → HasRead s u (IsForNotes s.design (Some cell) s.design.top)
notes_and_paths s t u cell top notes some first same second =
    let known = some_top s.design.top top some in
    let here : HasRead t u (IsReachedBy s.design known.0.cell s.design.notes) =
    subst (λ (c : CellId). HasRead t u (IsReachedBy s.design c s.design.notes)) (sym known.2)
    (subst (λ (ns : List Note). HasRead t u (IsReachedBy s.design top ns)) same
    (subst (λ (d : Design). HasRead t u (IsReachedBy d top notes)) first.design second)) in
    subst (λ (o : Option TopHead). HasRead s u (IsForNotes s.design (Some cell) o)) (sym known.1)
    (read_then s t u (λ o. o ≡ Notes) (IsReachedBy s.design known.0.cell s.design.notes) (λ o. (o ≡ Notes) ⊎ IsReachedBy s.design known.0.cell s.design.notes o) first here (λ o. (λ x. x, λ x. x)))
