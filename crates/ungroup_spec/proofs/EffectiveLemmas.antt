-- Occurrences below the top keep their effective properties.
use Rattle.std.proofs.Common.{◌≡◌, ℕ, List, [], ◌∷◌, Bool, true, false, cond, map, filter, refl, sym, ap, subst, ◌∙◌, inl, inr, Option, Some, None, slice_get}
use Rattle.std.specs.Prelude.{IfSome, filter_map, nat_eq, option_map}
use Rattle.std.specs.Cmp.Lexicographic.{pointwise}
use Rattle.std.specs.List.{All, cons_option, last_or}
use Rattle.std.specs.Option.{option_map_or}
use Rattle.std.proofs.lemmas.Bool.{false≢true, false_from_ne_true}
use Rattle.netlist_schema.specs.Design.{Design}
use Rattle.netlist_schema.specs.Hierarchy.{insts_at}
use Rattle.netlist_schema.specs.Types.{CellId, Inst, Note, Property}
use Rattle.netlist_schema.specs.Valid.{IsNoteBelow}
use Rattle.flat_spec.specs.Effective.{base_properties, insts_along, merged, names_along, notes_for}
use Rattle.flat_spec.proofs.ListLemmas.{Member}
use Rattle.flat_spec.proofs.TestLemmas.{names_same, names_refl}
use Rattle.ungroup_spec.specs.KeepsNets.{after, Bearing, bearing_of, EffectiveStays, IsUngroup}
use Rattle.ungroup_spec.specs.Maps.{Dissolving, path_after, path_inside}
use Rattle.ungroup_spec.specs.MovedNotes.{moved_note, moved_path}
use Rattle.ungroup_spec.proofs.AtLemmas.{insts-here}
use Rattle.ungroup_spec.proofs.FreshLemmas.{member-All}
use Rattle.ungroup_spec.proofs.KeptLemmas.{instances_are_kept, notes_are_moved}
use Rattle.ungroup_spec.proofs.NamesLemmas.{names_moved}
use Rattle.ungroup_spec.proofs.PathLemmas.{path-cases, inside-parts, kid-of, within-kid}
use Rattle.ungroup_spec.proofs.ResolveLemmas.{way-resolves}
use Rattle.ungroup_spec.proofs.ValidLemmas.{one-path, was}
use Rattle.ungroup_spec.proofs.Ways.{Way}

module _ (d : Design) (q : Dissolving) (is : IsUngroup d q) where
  -- a path with an image leads somewhere
  mutual
    image-way : (p : List ℕ) (c : CellId) (moved : List ℕ) → path_after d q c p ≡ Some moved → (e : CellId) × Way d c p e
    image-way [] c moved e = (c, refl)
    image-way (i ∷ p) c moved e =
        elim (path-cases d q c i p moved e) [
          | inl in_it ↦
              let deep = inside-way p moved in_it.on in
              let at : slice_get (insts_at d c) i ≡ Some q.site.inst =
              subst (λ v. slice_get (insts_at d v) i ≡ Some q.site.inst) (sym in_it.cell)
              (subst (λ v. slice_get (insts_at d q.cell) v ≡ Some q.site.inst) (sym in_it.place)
              (subst (λ v. slice_get v q.site.place ≡ Some q.site.inst) (sym (insts-here d q.cell q.site.around is.stands.around)) is.stands.inst)) in
              (deep.0, (q.site.inst.of, kid-of d c i q.site.inst at, deep.1))
          | inr on ↦
              let deep = image-way p on.inst.of on.rest on.on in
              (deep.0, (on.inst.of, kid-of d c i on.inst on.is, deep.1))
        ]

    inside-way : (p moved : List ℕ) → path_inside d q p ≡ Some moved → (e : CellId) × Way d q.site.inst.of p e
    inside-way [] moved e = absurd (cc e)
    inside-way (j ∷ p) moved e =
        let parts = inside-parts d q j p moved e in
        let deep = image-way p parts.inst.of parts.rest parts.on in
        (deep.0, (parts.inst.of, within-kid d q is.stands j parts.inst parts.is, deep.1))

  module _ (top : CellId) (path moved : List ℕ) (at : path_after d q top path ≡ Some moved) where
    -- a note that becomes another is for the occurrence exactly where that is for its image
    note-for : (note new : Note) → IsNoteBelow d top note → moved_note d q.cell q.site top note ≡ Some new
        → pointwise (pointwise nat_eq) new.path (names_along (after d q) top moved) ≡ pointwise (pointwise nat_eq) note.path (names_along d top path)
    note-for note new below e = go (pointwise (pointwise nat_eq) note.path (names_along d top path)) refl
      where
        go : (b : Bool) → pointwise (pointwise nat_eq) note.path (names_along d top path) ≡ b
            → pointwise (pointwise nat_eq) new.path (names_along (after d q) top moved) ≡ pointwise (pointwise nat_eq) note.path (names_along d top path)
        go true is_b =
            let old = names_same note.path (names_along d top path) is_b in
            let both : ◌≡◌ {A = Option (List (List ℕ))} (Some new.path) (Some (names_along (after d q) top moved)) =
            sym (was d q is top note new e).path ∙ ap (moved_path d q.cell q.site top) old ∙ names_moved d q is path top moved at in
            let same : new.path ≡ names_along (after d q) top moved = cc both in
            subst (λ v. pointwise (pointwise nat_eq) v (names_along (after d q) top moved) ≡ true) (sym same) (names_refl (names_along (after d q) top moved)) ∙ sym is_b
        go false is_b =
            false_from_ne_true (pointwise (pointwise nat_eq) new.path (names_along (after d q) top moved)) (λ t.
            let same = names_same new.path (names_along (after d q) top moved) t in
            let way = image-way path top moved at in
            let one = one-path d q is top note.path (names_along d top path) new.path below.resolves (way-resolves d path top way.0 way.1) (was d q is top note new e).path
            (names_moved d q is path top moved at ∙ ap (λ v. Some v) (sym same)) in
            false≢true (sym is_b ∙ subst (λ v. pointwise (pointwise nat_eq) note.path v ≡ true) one (names_refl note.path)))
            ∙ sym is_b

    -- and one that goes is not for it
    note-gone : (note : Note) → moved_note d q.cell q.site top note ≡ None → pointwise (pointwise nat_eq) note.path (names_along d top path) ≡ false
    note-gone note e =
        false_from_ne_true (pointwise (pointwise nat_eq) note.path (names_along d top path)) (λ t.
        let same = names_same note.path (names_along d top path) t in
        let there = ap (moved_path d q.cell q.site top) same ∙ names_moved d q is path top moved at in
        cc (sym e ∙ ap (option_map (λ p. record note { path = p })) there))

    -- the notes for an occurrence are those for its image
    notes-same : (notes : List Note) → ((note : Note) → Member notes note → IsNoteBelow d top note)
        → notes_for (names_along (after d q) top moved) (filter_map (moved_note d q.cell q.site top) notes) ≡ notes_for (names_along d top path) notes
    notes-same [] below = refl
    notes-same (note ∷ notes) below =
        go (moved_note d q.cell q.site top note) refl (notes-same notes (λ n m. below n (inr m)))
      where
        keep : (b c : Bool) (x y : Note) (xs ys : List Note) → b ≡ c → x.property ≡ y.property → map (λ (n : Note). n.property) xs ≡ map (λ (n : Note). n.property) ys
            → map (λ (n : Note). n.property) (cond b (x ∷ xs) xs) ≡ map (λ (n : Note). n.property) (cond c (y ∷ ys) ys)
        keep true true x y xs ys e p r = λ i. p i ∷ r i
        keep false false x y xs ys e p r = r
        keep true false x y xs ys e p r = absurd (false≢true (sym e))
        keep false true x y xs ys e p r = absurd (false≢true e)

        go : (o : Option Note) → moved_note d q.cell q.site top note ≡ o
            → notes_for (names_along (after d q) top moved) (filter_map (moved_note d q.cell q.site top) notes) ≡ notes_for (names_along d top path) notes
            → notes_for (names_along (after d q) top moved) (cons_option o (filter_map (moved_note d q.cell q.site top) notes)) ≡ notes_for (names_along d top path) (note ∷ notes)
        go None e rest =
            rest ∙ ap (λ b. map (λ (n : Note). n.property) (cond b (note ∷ filter (λ (n : Note). pointwise (pointwise nat_eq) n.path (names_along d top path)) notes) (filter (λ (n : Note). pointwise (pointwise nat_eq) n.path (names_along d top path)) notes))) (sym (note-gone note e))
        go (Some new) e rest =
            keep (pointwise (pointwise nat_eq) new.path (names_along (after d q) top moved)) (pointwise (pointwise nat_eq) note.path (names_along d top path)) new note
            (filter (λ (n : Note). pointwise (pointwise nat_eq) n.path (names_along (after d q) top moved)) (filter_map (moved_note d q.cell q.site top) notes))
            (filter (λ (n : Note). pointwise (pointwise nat_eq) n.path (names_along d top path)) notes)
            (note-for note new (below note (inl refl)) e) (was d q is top note new e).property rest

base-by : (o : Option Inst) (properties : List Property)
    → option_map_or (λ (i : Inst). i.properties) o properties ≡ option_map_or (λ (b : Bearing). b.properties) (option_map bearing_of o) properties
base-by None properties = refl
base-by (Some inst) properties = refl

pub effective_stays : EffectiveStays
effective_stays d q top path moved is at_top at =
    let base : base_properties (after d q) top moved ≡ base_properties d top path =
    base-by (last_or None (insts_along (after d q) top.cell moved)) top.properties
    ∙ ap (λ o. option_map_or (λ (b : Bearing). b.properties) o top.properties) (instances_are_kept d q top.cell path moved is at)
    ∙ sym (base-by (last_or None (insts_along d top.cell path)) top.properties) in
    let belows : All (IsNoteBelow d top.cell) d.notes = subst (λ o. IfSome o (λ t. All (IsNoteBelow d t.cell) d.notes)) at_top is.valid.notes in
    let notes : notes_for (names_along (after d q) top.cell moved) (after d q).notes ≡ notes_for (names_along d top.cell path) d.notes =
    ap (notes_for (names_along (after d q) top.cell moved)) (notes_are_moved d q top is at_top)
    ∙ notes-same d q is top.cell path moved at d.notes (λ note m. member-All (IsNoteBelow d top.cell) d.notes note belows m) in
    λ i. merged (base i) (notes i)
