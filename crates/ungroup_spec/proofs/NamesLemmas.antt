-- The identifiers along paths afterwards.
use Rattle.std.proofs.Common.{◌≡◌, ◌≢◌, ◌+◌, ℕ, zero, suc, List, [], ◌∷◌, true, false, map, refl, sym, ap, subst, ◌∙◌, inl, inr, arith, Option, Some, None, slice_get}
use Rattle.std.specs.Prelude.{◌&&◌, cond, option_and_then, option_map}
use Rattle.std.specs.List.{position_from}
use Rattle.std.specs.Option.{option_map_or}
use Rattle.std.proofs.lemmas.Bool.{and_parts, and_from, false_from_ne_true}
use Rattle.netlist_schema.specs.Design.{Design, cell_at, insts_of}
use Rattle.netlist_schema.specs.Hierarchy.{insts_at, HasInst, IsBelow, placed, deeper}
use Rattle.netlist_schema.specs.Types.{CellBody, CellId, Inst}
use Rattle.netlist_schema.specs.Valid.{IsValid}
use Rattle.netlist_schema.proofs.Ranks.{below_trans}
use Rattle.edit_rules_spec.specs.Find.{is_name, inst_place, inst_named}
use Rattle.edit_rules_spec.specs.Paths.{same_cell}
use Rattle.edit_rules_spec.proofs.Refusals.{same_name}
use Rattle.edit_rules_spec.proofs.Refusals.{is_name-refl}
use Rattle.flat_spec.specs.Effective.{names_along}
use Rattle.flat_spec.proofs.ListLemmas.{slice_get-contains}
use Rattle.flat_spec.proofs.PathLemmas.{Some-same}
use Rattle.flat_spec.proofs.PinLemmas.{AllPairs-ascends}
use Rattle.edit_rules_spec.proofs.Levels.{is_same_cell}
use Rattle.ungroup_spec.specs.Dissolved.{children}
use Rattle.ungroup_spec.specs.KeepsNets.{after, IsUngroup, Bearing, NamesAreMoved}
use Rattle.ungroup_spec.specs.Maps.{Dissolving, step_after, child_after, path_after, path_inside}
use Rattle.ungroup_spec.specs.MovedNotes.{child_id, past_inst, moved_path}
use Rattle.ungroup_spec.proofs.AfterLemmas.{mapped-at}
use Rattle.ungroup_spec.proofs.ApartLemmas.{Apart}
use Rattle.ungroup_spec.proofs.AtLemmas.{insts-here}
use Rattle.ungroup_spec.proofs.CarriedLemmas.{same_cell-refl}
use Rattle.ungroup_spec.proofs.KeptLemmas.{along-on, inst-on, inst-in}
use Rattle.ungroup_spec.proofs.PathLemmas.{path-cases, inside-parts}
use Rattle.ungroup_spec.proofs.PlaceLemmas.{slice_get-member}
use Rattle.ungroup_spec.proofs.SoundLemmas.{has-inst}

-- in a valid design the names of a cell's instances differ
pub names-apart : (d : Design) → IsValid d → (c : CellId) → Apart (map (λ (inst : Inst). inst.name.id) (insts_at d c))
names-apart d valid c = go (cell_at d c) refl
  where
    go : (o : Option CellBody) → cell_at d c ≡ o → Apart (map (λ (inst : Inst). inst.name.id) (option_map_or insts_of o []))
    go None is = tt
    go (Some body) is = AllPairs-ascends (λ a b. a ≢ b) (map (λ (inst : Inst). inst.name.id) (insts_of body)) (valid.cells c body is).names.insts

-- where names differ, each is found at its place
place-at : (names : List (List ℕ)) (n i : ℕ) (name : List ℕ) → Apart names → slice_get names i ≡ Some name
    → position_from (λ other. is_name other name) n names ≡ Some (n + i)
place-at [] n i name p e = absurd (cc e)
place-at (x ∷ names) n zero name p e =
    let same : x ≡ name = cc e in
    ap (λ b. cond b (Some n) (position_from (λ other. is_name other name) (n + 1) names)) (subst (λ v. is_name v name ≡ true) (sym same) (is_name-refl name))
    ∙ ap (λ v. Some v) (omega arith)
place-at (x ∷ names) n (suc i) name p e =
    let other : is_name x name ≡ false = false_from_ne_true (is_name x name) (λ t. p.0 name (slice_get-member names i name e) (same_name x name t)) in
    let sum : n + 1 + i ≡ n + suc i = omega arith in
    ap (λ b. cond b (Some n) (position_from (λ o. is_name o name) (n + 1) names)) other
    ∙ place-at names (n + 1) i name p.1 e ∙ ap (λ v. Some v) sum

pub inst_place-at : (insts : List Inst) (i : ℕ) (inst : Inst) → Apart (map (λ (v : Inst). v.name.id) insts) → slice_get insts i ≡ Some inst
    → inst_place inst.name.id insts ≡ Some i
inst_place-at insts i inst p e =
    place-at (map (λ (v : Inst). v.name.id) insts) 0 i inst.name.id p (mapped-at (λ (v : Inst). v.name.id) insts i inst e) ∙ ap (λ v. Some v) (omega arith)

pub inst_named-at : (insts : List Inst) (i : ℕ) (inst : Inst) → Apart (map (λ (v : Inst). v.name.id) insts) → slice_get insts i ≡ Some inst
    → inst_named inst.name.id insts ≡ Some inst
inst_named-at insts i inst p e = ap (option_and_then (slice_get insts)) (inst_place-at insts i inst p e) ∙ e

-- two instances of one name are one
pub one-name : (insts : List Inst) (i j : ℕ) (x y : Inst) → Apart (map (λ (v : Inst). v.name.id) insts) → slice_get insts i ≡ Some x → slice_get insts j ≡ Some y
    → x.name.id ≡ y.name.id → i ≡ j
one-name insts i j x y p e f same =
    let a = inst_place-at insts i x p e in
    let b = inst_place-at insts j y p f in
    Some-same (inst_place x.name.id insts) a (ap (λ v. inst_place v insts) same ∙ b)

module _ (d : Design) (q : Dissolving) (is : IsUngroup d q) where
  pub names-on : (e : Design) (c : CellId) (i : ℕ) (p : List ℕ) (inst : Inst) → slice_get (insts_at e c) i ≡ Some inst
      → names_along e c (i ∷ p) ≡ inst.name.id ∷ names_along e inst.of p
  names-on e c i p inst at = ap (map (λ (v : Inst). v.name.id)) (along-on d q is.stands e c i p inst at)

  -- below cells that do not have the instance in them nothing changes
  names-same : (p : List ℕ) (c : CellId) (moved : List ℕ) → (c ≡ q.cell → ⊥) → (IsBelow d q.cell c → ⊥) → path_after d q c p ≡ Some moved
      → names_along d c p ≡ names_along (after d q) c moved
  names-same [] c moved other apart e = let none : [] ≡ moved = cc e in ap (names_along (after d q) c) none
  names-same (i ∷ p) c moved other apart e =
      elim (path-cases d q c i p moved e) [
        | inl in_it ↦ absurd (other in_it.cell)
        | inr on ↦
            let has : HasInst d c on.inst = slice_get-contains (insts_at d c) i on.inst on.is in
            let deep = names-same p on.inst.of on.rest
            (λ same. apart (subst (λ v. IsBelow d v c) same (placed on.inst has)))
            (λ below. apart (deeper on.inst has below)) on.on in
            names-on d c i p on.inst on.is ∙ ap (λ v. on.inst.name.id ∷ v) deep
            ∙ sym (names-on (after d q) c (step_after q c i) on.rest on.inst (inst-on d q is.stands c i on.inst on.other on.is))
            ∙ ap (names_along (after d q) c) (sym on.whole)
      ]

  pub names_moved : (p : List ℕ) (c : CellId) (moved : List ℕ) → path_after d q c p ≡ Some moved
      → moved_path d q.cell q.site c (names_along d c p) ≡ Some (names_along (after d q) c moved)
  names_moved [] c moved e = let none : [] ≡ moved = cc e in ap (λ v. Some (names_along (after d q) c v)) none
  names_moved (i ∷ p) c moved e =
      elim (path-cases d q c i p moved e) [
        | inl in_it ↦
            let there : slice_get (insts_at d c) i ≡ Some q.site.inst =
            subst (λ v. slice_get (insts_at d v) i ≡ Some q.site.inst) (sym in_it.cell)
            (subst (λ v. slice_get (insts_at d q.cell) v ≡ Some q.site.inst) (sym in_it.place)
            (subst (λ v. slice_get v q.site.place ≡ Some q.site.inst) (sym (insts-here d q.cell q.site.around is.stands.around)) is.stands.inst)) in
            let test : (same_cell c q.cell && is_name q.site.inst.name.id q.site.inst.name.id) ≡ true =
            and_from (same_cell c q.cell) (is_name q.site.inst.name.id q.site.inst.name.id) (same_cell-refl c q.cell in_it.cell) (is_name-refl q.site.inst.name.id) in
            let steps = names_along d q.site.inst.of p in
            ap (moved_path d q.cell q.site c) (names-on d c i p q.site.inst there)
            ∙ ap (λ b. cond b (past_inst q.site steps) (option_map (λ rest. q.site.inst.name.id ∷ rest) (option_map_or (λ (next : Inst). moved_path d q.cell q.site next.of steps) (inst_named q.site.inst.name.id (insts_at d c)) (Some steps)))) test
            ∙ inside p moved in_it.on
            ∙ ap (λ v. Some (names_along (after d q) v moved)) (sym in_it.cell)
        | inr on ↦
            let steps = names_along d on.inst.of p in
            let test : (same_cell c q.cell && is_name on.inst.name.id q.site.inst.name.id) ≡ false =
            false_from_ne_true (same_cell c q.cell && is_name on.inst.name.id q.site.inst.name.id) (λ t.
            let both = and_parts (same_cell c q.cell) (is_name on.inst.name.id q.site.inst.name.id) t in
            let cell = is_same_cell c q.cell both.0 in
            on.other cell (place-of c i on.inst cell on.is (same_name on.inst.name.id q.site.inst.name.id both.1))) in
            let found : inst_named on.inst.name.id (insts_at d c) ≡ Some on.inst = inst_named-at (insts_at d c) i on.inst (names-apart d is.valid c) on.is in
            ap (moved_path d q.cell q.site c) (names-on d c i p on.inst on.is)
            ∙ ap (λ b. cond b (past_inst q.site steps) (option_map (λ rest. on.inst.name.id ∷ rest) (option_map_or (λ (next : Inst). moved_path d q.cell q.site next.of steps) (inst_named on.inst.name.id (insts_at d c)) (Some steps)))) test
            ∙ ap (λ o. option_map (λ rest. on.inst.name.id ∷ rest) (option_map_or (λ (next : Inst). moved_path d q.cell q.site next.of steps) o (Some steps))) found
            ∙ ap (option_map (λ rest. on.inst.name.id ∷ rest)) (names_moved p on.inst.of on.rest on.on)
            ∙ ap (λ v. Some v) (sym (names-on (after d q) c (step_after q c i) on.rest on.inst (inst-on d q is.stands c i on.inst on.other on.is)))
            ∙ ap (λ v. Some (names_along (after d q) c v)) (sym on.whole)
      ]
    where
      place-of : (c : CellId) (i : ℕ) (inst : Inst) → c ≡ q.cell → slice_get (insts_at d c) i ≡ Some inst → inst.name.id ≡ q.site.inst.name.id → i ≡ q.site.place
      place-of c i inst cell at same =
          let here : slice_get (insts_at d q.cell) i ≡ Some inst = subst (λ v. slice_get (insts_at d v) i ≡ Some inst) cell at in
          let there : slice_get (insts_at d q.cell) q.site.place ≡ Some q.site.inst =
          subst (λ v. slice_get v q.site.place ≡ Some q.site.inst) (sym (insts-here d q.cell q.site.around is.stands.around)) is.stands.inst in
          one-name (insts_at d q.cell) i q.site.place inst q.site.inst (names-apart d is.valid q.cell) here there same

      inside : (p moved : List ℕ) → path_inside d q p ≡ Some moved → past_inst q.site (names_along d q.site.inst.of p) ≡ Some (names_along (after d q) q.cell moved)
      inside [] moved e = absurd (cc e)
      inside (j ∷ p) moved e =
          let parts = inside-parts d q j p moved e in
          let old : slice_get (insts_at d q.site.inst.of) j ≡ Some parts.inst =
          subst (λ v. slice_get v j ≡ Some parts.inst) (sym (insts-here d q.site.inst.of q.site.within is.stands.within)) parts.is in
          let now = inst-in d q is.stands j parts.inst parts.is in
          let within : Apart (map (λ (v : Inst). v.name.id) q.site.within.insts) =
          subst (λ (v : List Inst). Apart (map (λ (w : Inst). w.name.id) v)) (insts-here d q.site.inst.of q.site.within is.stands.within) (names-apart d is.valid q.site.inst.of) in
          let id : child_id q.site parts.inst.name.id ≡ now.0.name.id =
          ap (λ o. option_map_or (λ (v : Inst). v.name.id) (option_and_then (slice_get (children q.site)) o) parts.inst.name.id) (inst_place-at q.site.within.insts j parts.inst within parts.is)
          ∙ ap (λ o. option_map_or (λ (v : Inst). v.name.id) o parts.inst.name.id) now.2 in
          let has : HasInst d q.site.inst.of parts.inst = slice_get-contains (insts_at d q.site.inst.of) j parts.inst old in
          let below : IsBelow d parts.inst.of q.cell = deeper q.site.inst (has-inst d q is.stands) (placed parts.inst has) in
          let deep = names-same p parts.inst.of parts.rest
          (λ same. is.valid.no_cycle q.cell (subst (λ v. IsBelow d v q.cell) same below))
          (λ up. is.valid.no_cycle q.cell (below_trans d up below)) parts.on in
          let cells : now.0.of ≡ parts.inst.of = ap (λ (b : Bearing). b.cell) now.3 in
          ap (past_inst q.site) (names-on d q.site.inst.of j p parts.inst old)
          ∙ ap (λ v. Some (v ∷ names_along d parts.inst.of p)) id
          ∙ ap (λ v. Some (now.0.name.id ∷ v)) (deep ∙ ap (λ v. names_along (after d q) v parts.rest) (sym cells))
          ∙ ap (λ v. Some v) (sym (names-on (after d q) q.cell (child_after q j) parts.rest now.0 now.1))
          ∙ ap (λ v. Some (names_along (after d q) q.cell v)) (sym parts.whole)

pub names_are_moved : NamesAreMoved
names_are_moved d q root path moved is e = names_moved d q is path root moved e
