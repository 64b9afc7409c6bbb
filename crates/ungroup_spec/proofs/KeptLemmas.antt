-- What instances keep, and the identifiers along paths and in notes.
use Rattle.std.proofs.Common.{◌≡◌, ◌<◌, ◌+◌, ℕ, List, [], ◌∷◌, Bool, true, false, length, map, refl, sym, ap, subst, ◌∙◌, inl, inr, Option, Some, None, slice_get}
use Rattle.std.specs.Prelude.{◌&&◌, cond, filter_map, option_and_then, option_map, option_to_list}
use Rattle.std.specs.List.{cons_option, last_or, list_any}
use Rattle.std.specs.Option.{option_map_or}
use Rattle.std.proofs.lemmas.List.{length-map}
use Rattle.std.proofs.lemmas.Option.{slice_get_within}
use Rattle.std.proofs.lemmas.Bool.{or_parts}
use Rattle.netlist_schema.specs.Design.{Design}
use Rattle.netlist_schema.specs.Hierarchy.{insts_at}
use Rattle.netlist_schema.specs.Types.{CellId, Inst, Note, TopHead}
use Rattle.netlist_schema.proofs.Lists.{get_unmapped}
use Rattle.edit_rules_spec.specs.Edit.{inner, noted, edited}
use Rattle.edit_rules_spec.specs.Find.{is_name, inst_named}
use Rattle.edit_rules_spec.specs.Paths.{same_cell, goes_through}
use Rattle.flat_spec.specs.Effective.{insts_along}
use Rattle.ungroup_spec.specs.Dissolved.{children, contents_after, inst_name, with_inst_name}
use Rattle.ungroup_spec.specs.Groups.{Site}
use Rattle.ungroup_spec.specs.KeepsNets.{after, Bearing, bearing_of, InstancesAreKept, NotesAreMoved}
use Rattle.ungroup_spec.specs.Maps.{Dissolving, step_after, child_after, path_after, path_inside}
use Rattle.ungroup_spec.specs.MovedNotes.{past_inst, moved_path, moved_note, moved_notes, changed_notes}
use Rattle.ungroup_spec.specs.Ungroup.{IsSite}
use Rattle.ungroup_spec.proofs.AfterLemmas.{map-named_up, mapped-at}
use Rattle.ungroup_spec.proofs.AtLemmas.{insts-here, insts-after, insts-other}
use Rattle.ungroup_spec.proofs.CarriedLemmas.{step-to}
use Rattle.ungroup_spec.proofs.EndLemmas.{spliced, spliced-before, spliced-in, spliced-behind}
use Rattle.ungroup_spec.proofs.PathLemmas.{path-cases, inside-parts}

pub children-count : (s : Site) → length (children s) ≡ length s.within.insts
children-count s =
    sym (length-map (children s) (λ (inst : Inst). inst.of))
    ∙ ap length (map-named_up inst_name with_inst_name (λ (inst : Inst). inst.of) (λ n inst. refl) (map (λ (inst : Inst). inst.name.id) s.around.insts) s.inst.name s.within.insts)
    ∙ length-map s.within.insts (λ (inst : Inst). inst.of)

module _ (d : Design) (q : Dissolving) (stands : IsSite d q.cell q.site) where
  place-in : q.site.place < length q.site.around.insts
  place-in = slice_get_within q.site.around.insts q.site.place q.site.inst stands.inst

  -- an instance elsewhere stands at its place, as it was
  pub inst-on : (c : CellId) (i : ℕ) (inst : Inst) → ((c ≡ q.cell) → (i ≡ q.site.place) → ⊥) → slice_get (insts_at d c) i ≡ Some inst
      → slice_get (insts_at (after d q) c) (step_after q c i) ≡ Some inst
  inst-on c i inst other is =
      elim (step-to d q c i other) [
        | inl apart ↦
            ap (slice_get (insts_at (after d q) c)) apart.1 ∙ ap (λ v. slice_get v i) (insts-other d q stands c apart.0) ∙ is
        | inr here ↦
            let around : slice_get q.site.around.insts i ≡ Some inst =
            subst (λ v. slice_get v i ≡ Some inst) (insts-here d q.cell q.site.around stands.around) (subst (λ v. slice_get (insts_at d v) i ≡ Some inst) here.0 is) in
            let list : insts_at (after d q) c ≡ spliced q.site.place (children q.site) q.site.around.insts =
            ap (insts_at (after d q)) here.0 ∙ insts-after d q stands in
            ap (λ v. slice_get v (step_after q c i)) list
            ∙ elim here.1 [
              | inl low ↦
                  ap (slice_get (spliced q.site.place (children q.site) q.site.around.insts)) low.1
                  ∙ spliced-before q.site.place (children q.site) q.site.around.insts place-in i low.0 ∙ around
              | inr high ↦
                  spliced-behind q.site.place (children q.site) q.site.around.insts place-in i (step_after q c i) high.0
                  (high.1 ∙ ap (λ v. i + v) (sym (children-count q.site))) ∙ around
            ]
      ]

  -- a child stands behind the place of the dissolved instance, with all but its name
  pub inst-in : (j : ℕ) (inst : Inst) → slice_get q.site.within.insts j ≡ Some inst
      → (new : Inst) × (slice_get (insts_at (after d q) q.cell) (child_after q j) ≡ Some new) × (slice_get (children q.site) j ≡ Some new) × (bearing_of new ≡ bearing_of inst)
  inst-in j inst is =
      let bearings : map bearing_of (children q.site) ≡ map bearing_of q.site.within.insts =
      map-named_up inst_name with_inst_name bearing_of (λ n i. refl) (map (λ (i : Inst). i.name.id) q.site.around.insts) q.site.inst.name q.site.within.insts in
      let at = subst (λ v. slice_get v j ≡ Some (bearing_of inst)) (sym bearings) (mapped-at bearing_of q.site.within.insts j inst is) in
      let found = get_unmapped bearing_of (children q.site) j (bearing_of inst) at in
      let few : j < length (children q.site) = subst (λ v. j < v) (sym (children-count q.site)) (slice_get_within q.site.within.insts j inst is) in (
        found.0,
        ap (λ v. slice_get v (child_after q j)) (insts-after d q stands) ∙ spliced-in q.site.place (children q.site) q.site.around.insts place-in j few ∙ found.1,
        found.1,
        found.2,
      )

  pub along-on : (e : Design) (c : CellId) (i : ℕ) (p : List ℕ) (inst : Inst) → slice_get (insts_at e c) i ≡ Some inst
      → insts_along e c (i ∷ p) ≡ inst ∷ insts_along e inst.of p
  along-on e c i p inst is = ap (λ o. option_map_or (λ (v : Inst). v ∷ insts_along e v.of p) o []) is

  -- ---- bearings

  mutual
    bearing_along : (p : List ℕ) (c : CellId) (moved : List ℕ) (o o' : Option Inst) → path_after d q c p ≡ Some moved → option_map bearing_of o' ≡ option_map bearing_of o
        → option_map bearing_of (last_or o' (insts_along (after d q) c moved)) ≡ option_map bearing_of (last_or o (insts_along d c p))
    bearing_along [] c moved o o' e same =
        let none : [] ≡ moved = cc e in
        subst (λ v. option_map bearing_of (last_or o' (insts_along (after d q) c v)) ≡ option_map bearing_of o) none same
    bearing_along (i ∷ p) c moved o o' e same =
        elim (path-cases d q c i p moved e) [
          | inl in_it ↦
              let there : slice_get (insts_at d c) i ≡ Some q.site.inst =
              subst (λ v. slice_get (insts_at d v) i ≡ Some q.site.inst) (sym in_it.cell)
              (subst (λ v. slice_get (insts_at d q.cell) v ≡ Some q.site.inst) (sym in_it.place)
              (subst (λ v. slice_get v q.site.place ≡ Some q.site.inst) (sym (insts-here d q.cell q.site.around stands.around)) stands.inst)) in
              subst (λ v. option_map bearing_of (last_or o' (insts_along (after d q) v moved)) ≡ option_map bearing_of (last_or o (insts_along d c (i ∷ p)))) (sym in_it.cell)
              (bearing_inside p moved o' (Some q.site.inst) in_it.on ∙ ap (λ v. option_map bearing_of (last_or o v)) (sym (along-on d c i p q.site.inst there)))
          | inr apart ↦
              let now = inst-on c i apart.inst apart.other apart.is in
              let deep = bearing_along p apart.inst.of apart.rest (Some apart.inst) (Some apart.inst) apart.on refl in
              ap (λ v. option_map bearing_of (last_or o' (insts_along (after d q) c v))) apart.whole
              ∙ ap (λ v. option_map bearing_of (last_or o' v)) (along-on (after d q) c (step_after q c i) apart.rest apart.inst now)
              ∙ deep ∙ ap (λ v. option_map bearing_of (last_or o v)) (sym (along-on d c i p apart.inst apart.is))
        ]

    bearing_inside : (p : List ℕ) (moved : List ℕ) (o' o : Option Inst) → path_inside d q p ≡ Some moved
        → option_map bearing_of (last_or o' (insts_along (after d q) q.cell moved)) ≡ option_map bearing_of (last_or o (insts_along d q.site.inst.of p))
    bearing_inside [] moved o' o e = absurd (cc e)
    bearing_inside (j ∷ p) moved o' o e =
        let parts = inside-parts d q j p moved e in
        let now = inst-in j parts.inst parts.is in
        let old : slice_get (insts_at d q.site.inst.of) j ≡ Some parts.inst =
        subst (λ v. slice_get v j ≡ Some parts.inst) (sym (insts-here d q.site.inst.of q.site.within stands.within)) parts.is in
        let cells : now.0.of ≡ parts.inst.of = ap (λ (b : Bearing). b.cell) now.3 in
        let deep = bearing_along p parts.inst.of parts.rest (Some parts.inst) (Some now.0) parts.on (ap (λ v. Some v) now.3) in
        ap (λ v. option_map bearing_of (last_or o' (insts_along (after d q) q.cell v))) parts.whole
        ∙ ap (λ v. option_map bearing_of (last_or o' v)) (along-on (after d q) q.cell (child_after q j) parts.rest now.0 now.1)
        ∙ ap (λ v. option_map bearing_of (last_or (Some now.0) (insts_along (after d q) v parts.rest))) cells
        ∙ deep ∙ ap (λ v. option_map bearing_of (last_or o v)) (sym (along-on d q.site.inst.of j p parts.inst old))

pub instances_are_kept : InstancesAreKept
instances_are_kept d q root path moved is e = bearing_along d q is.stands path root moved None None e refl

-- ---- notes

-- a path that does not go through the instance stays
stays : (d : Design) (cell : CellId) (s : Site) (path : List (List ℕ)) (at : CellId) → goes_through d cell s.inst.name.id at path ≡ false
    → moved_path d cell s at path ≡ Some path
stays d cell s [] at e = refl
stays d cell s (step ∷ steps) at e =
    let parts = or_parts (same_cell at cell && is_name step s.inst.name.id) (option_map_or (λ (next : Inst). goes_through d cell s.inst.name.id next.of steps) (inst_named step (insts_at d at)) false) e in
    ap (λ b. cond b (past_inst s steps) (option_map (λ rest. step ∷ rest) (option_map_or (λ (next : Inst). moved_path d cell s next.of steps) (inst_named step (insts_at d at)) (Some steps)))) parts.0
    ∙ ap (option_map (λ rest. step ∷ rest)) (go (inst_named step (insts_at d at)) (λ next f. stays d cell s steps next.of f) parts.1)
  where
    go : (o : Option Inst) → ((next : Inst) → goes_through d cell s.inst.name.id next.of steps ≡ false → moved_path d cell s next.of steps ≡ Some steps)
        → option_map_or (λ (next : Inst). goes_through d cell s.inst.name.id next.of steps) o false ≡ false
        → option_map_or (λ (next : Inst). moved_path d cell s next.of steps) o (Some steps) ≡ Some steps
    go None further f = refl
    go (Some next) further f = further next f

all-stay : (d : Design) (cell : CellId) (s : Site) (top : CellId) (notes : List Note)
    → list_any (λ (note : Note). goes_through d cell s.inst.name.id top note.path) notes ≡ false → filter_map (moved_note d cell s top) notes ≡ notes
all-stay d cell s top [] e = refl
all-stay d cell s top (note ∷ notes) e =
    let parts = or_parts (goes_through d cell s.inst.name.id top note.path) (list_any (λ (n : Note). goes_through d cell s.inst.name.id top n.path) notes) e in
    let here : moved_note d cell s top note ≡ Some note = ap (option_map (λ path. record note { path = path })) (stays d cell s note.path top parts.0) in
    ap (λ o. cons_option o (filter_map (moved_note d cell s top) notes)) here ∙ ap (λ v. note ∷ v) (all-stay d cell s top notes parts.1)

pub notes_are_moved : NotesAreMoved
notes_are_moved d q top is at =
    go (list_any (λ (note : Note). goes_through d q.cell q.site.inst.name.id top.cell note.path) d.notes) refl
  where
    changed : (b : Bool) → list_any (λ (note : Note). goes_through d q.cell q.site.inst.name.id top.cell note.path) d.notes ≡ b
        → changed_notes d q.cell q.site ≡ cond b (Some (moved_notes d q.cell q.site top.cell)) None
    changed b e =
        ap (option_and_then (λ (t : TopHead). cond (list_any (λ (note : Note). goes_through d q.cell q.site.inst.name.id t.cell note.path) d.notes) (Some (moved_notes d q.cell q.site t.cell)) None)) at
        ∙ ap (λ v. cond v (Some (moved_notes d q.cell q.site top.cell)) None) e

    go : (b : Bool) → list_any (λ (note : Note). goes_through d q.cell q.site.inst.name.id top.cell note.path) d.notes ≡ b
        → (after d q).notes ≡ moved_notes d q.cell q.site top.cell
    go true e = ap (λ (o : Option (List Note)). (edited d (inner q.cell (contents_after q.site) ∷ option_to_list (option_map noted o))).notes) (changed true e)
    go false e =
        ap (λ (o : Option (List Note)). (edited d (inner q.cell (contents_after q.site) ∷ option_to_list (option_map noted o))).notes) (changed false e)
        ∙ sym (all-stay d q.cell q.site top.cell d.notes e)
