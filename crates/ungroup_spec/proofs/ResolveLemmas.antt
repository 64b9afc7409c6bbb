-- Paths of identifiers and paths of places, before and afterwards.
use Rattle.std.proofs.Common.{◌≡◌, ℕ, List, [], ◌∷◌, true, false, map, refl, sym, ap, subst, ◌∙◌, inl, inr, Option, Some, None, slice_get}
use Rattle.std.specs.Prelude.{◌&&◌, cond, option_and_then, option_map}
use Rattle.std.specs.List.{All}
use Rattle.std.specs.Option.{option_map_or}
use Rattle.std.proofs.lemmas.Bool.{and_parts, and_from, false_from_ne_true}
use Rattle.std.proofs.lemmas.Option.{slice_get-get_or}
use Rattle.netlist_schema.specs.Design.{Design, cell_at, insts_of}
use Rattle.netlist_schema.specs.Hierarchy.{insts_at, HasInst, IsBelow, placed, deeper, Resolves}
use Rattle.netlist_schema.specs.Ident.{IsIdentifier}
use Rattle.netlist_schema.specs.Typed.{IsTypedCell, IsTypedInst}
use Rattle.netlist_schema.specs.Types.{CellBody, CellId, Inst}
use Rattle.netlist_schema.specs.Valid.{IsValid}
use Rattle.netlist_schema.proofs.Cells.{All-cell_at}
use Rattle.netlist_schema.proofs.Ranks.{below_trans}
use Rattle.edit_rules_spec.specs.Find.{is_name, inst_named}
use Rattle.edit_rules_spec.specs.Paths.{same_cell}
use Rattle.edit_rules_spec.proofs.Refusals.{same_name}
use Rattle.edit_rules_spec.proofs.Refusals.{is_name-refl}
use Rattle.flat_spec.specs.Effective.{insts_along, names_along}
use Rattle.flat_spec.specs.PathOrder.{PathBefore}
use Rattle.flat_spec.proofs.ListLemmas.{Member, slice_get-contains}
use Rattle.flat_spec.proofs.PathLemmas.{Some-same}
use Rattle.flat_spec.proofs.RepresentativeLemmas.{PathBefore-total, PathBefore-not_both}
use Rattle.edit_rules_spec.proofs.Levels.{is_same_cell}
use Rattle.ungroup_spec.specs.KeepsNets.{after, IsUngroup}
use Rattle.ungroup_spec.specs.Maps.{Dissolving, step_after, child_after, path_after, path_inside}
use Rattle.ungroup_spec.specs.MovedNotes.{past_inst, moved_path}
use Rattle.ungroup_spec.proofs.ApartLemmas.{Apart}
use Rattle.ungroup_spec.proofs.AtLemmas.{insts-here, insts-after, insts-other}
use Rattle.ungroup_spec.proofs.CarriedLemmas.{dissolved-cases, is_dissolves, same_cell-refl}
use Rattle.ungroup_spec.proofs.ContentsLemmas.{inst-names, insts-typed}
use Rattle.ungroup_spec.proofs.FreshLemmas.{All-member, member-All}
use Rattle.ungroup_spec.proofs.ImageLemmas.{CellId-cases}
use Rattle.ungroup_spec.proofs.NamesLemmas.{names-apart, inst_named-at, one-name, names_moved}
use Rattle.ungroup_spec.proofs.PathLemmas.{and_map-from, path-on}
use Rattle.ungroup_spec.proofs.PlaceLemmas.{slice_get-member}
use Rattle.ungroup_spec.proofs.SoundLemmas.{fits-within, has-inst}
use Rattle.ungroup_spec.proofs.TreeLemmas.{order_after}
use Rattle.ungroup_spec.proofs.Ways.{Way}

along-step : (e : Design) (c : CellId) (i : ℕ) (p : List ℕ) (inst : Inst) → slice_get (insts_at e c) i ≡ Some inst
    → names_along e c (i ∷ p) ≡ inst.name.id ∷ names_along e inst.of p
along-step e c i p inst is = ap (λ o. map (λ (v : Inst). v.name.id) (option_map_or (λ (v : Inst). v ∷ insts_along e v.of p) o [])) is

-- identifiers that resolve lead along places
pub resolves-way : (d : Design) (path : List (List ℕ)) (c : CellId) → Resolves d c path → (p : List ℕ) × (e : CellId) × Way d c p e × (names_along d c p ≡ path)
resolves-way d [] c r = ([], c, refl, refl)
resolves-way d (step ∷ steps) c r =
    let inst = r.0 in
    let place = r.1.0 in
    let at : slice_get (insts_at d c) place ≡ Some inst = slice_get-get_or (insts_at d c) place inst r.1.1 ∙ ap (λ v. Some v) r.1.2 in
    let deep = resolves-way d steps inst.of r.3 in (
      place ∷ deep.0,
      deep.1,
      (inst.of, (inst, at, refl), deep.2),
      along-step d c place deep.0 inst at ∙ (λ i. r.2 i ∷ deep.3 i),
    )

-- and places lead along identifiers that resolve
pub way-resolves : (e : Design) (p : List ℕ) (c end : CellId) → Way e c p end → Resolves e c (names_along e c p)
way-resolves e [] c end way = tt
way-resolves e (i ∷ p) c end way =
    let inst = way.1.0 in
    let deep = way-resolves e p inst.of end (subst (λ v. Way e v p end) way.1.2 way.2) in
    subst (Resolves e c) (sym (along-step e c i p inst way.1.1)) (inst, slice_get-contains (insts_at e c) i inst way.1.1, refl, deep)

-- where names differ, one list of identifiers leads along one path
pub one-way : (e : Design) → ((c : CellId) → Apart (map (λ (inst : Inst). inst.name.id) (insts_at e c))) → (p r : List ℕ) (c a b : CellId)
    → Way e c p a → Way e c r b → names_along e c p ≡ names_along e c r → p ≡ r
one-way e apart [] [] c a b w v same = refl
one-way e apart [] (j ∷ r) c a b w v same = absurd (cc (same ∙ along-step e c j r v.1.0 v.1.1))
one-way e apart (i ∷ p) [] c a b w v same = absurd (cc (sym same ∙ along-step e c i p w.1.0 w.1.1))
one-way e apart (i ∷ p) (j ∷ r) c a b w v same =
    let all : w.1.0.name.id ∷ names_along e w.1.0.of p ≡ v.1.0.name.id ∷ names_along e v.1.0.of r =
    sym (along-step e c i p w.1.0 w.1.1) ∙ same ∙ along-step e c j r v.1.0 v.1.1 in
    let name : w.1.0.name.id ≡ v.1.0.name.id = cc all in
    let rest : names_along e w.1.0.of p ≡ names_along e v.1.0.of r = cc all in
    let place = one-name (insts_at e c) i j w.1.0 v.1.0 (apart c) w.1.1 v.1.1 name in
    let inst : w.1.0 ≡ v.1.0 = Some-same (slice_get (insts_at e c) j) (subst (λ k. slice_get (insts_at e c) k ≡ Some w.1.0) place w.1.1) v.1.1 in
    let deep = one-way e apart p r w.1.0.of a b (subst (λ k. Way e k p a) w.1.2 w.2)
    (subst (λ k. Way e k r b) (v.1.2 ∙ ap (λ (x : Inst). x.of) (sym inst)) v.2) (rest ∙ ap (λ (x : Inst). names_along e x.of r) (sym inst)) in
    λ t. place t ∷ deep t

-- identifiers along a path are identifiers
pub along-typed : (e : Design) → ((c : CellId) → All IsTypedInst (insts_at e c)) → (p : List ℕ) (c end : CellId) → Way e c p end
    → (id : List ℕ) → Member (names_along e c p) id → IsIdentifier id
along-typed e typed [] c end way id m = absurd m
along-typed e typed (i ∷ p) c end way id m =
    elim (subst (λ v. Member v id) (along-step e c i p way.1.0 way.1.1) m) [
      | inl same ↦ subst IsIdentifier same (member-All IsTypedInst (insts_at e c) way.1.0 (typed c) (slice_get-member (insts_at e c) i way.1.0 way.1.1)).name.id
      | inr rest ↦ along-typed e typed p way.1.0.of end (subst (λ v. Way e v p end) way.1.2 way.2) id rest
    ]

insts-typed-at : (d : Design) → IsValid d → (c : CellId) → All IsTypedInst (insts_at d c)
insts-typed-at d valid c = go (cell_at d c) refl
  where
    go : (o : Option CellBody) → cell_at d c ≡ o → All IsTypedInst (option_map_or insts_of o [])
    go None is = All-member IsTypedInst [] (λ x m. absurd m)
    go (Some body) is = (All-cell_at IsTypedCell d c body valid.typed.cells is).insts

module _ (d : Design) (q : Dissolving) (is : IsUngroup d q) where
  -- names differ afterwards, and are names
  pub apart-after : (c : CellId) → Apart (map (λ (inst : Inst). inst.name.id) (insts_at (after d q) c))
  apart-after c =
      elim (CellId-cases c q.cell) [
        | inl here ↦
            subst (λ (v : List Inst). Apart (map (λ (inst : Inst). inst.name.id) v)) (sym (ap (insts_at (after d q)) here ∙ insts-after d q is.stands)) (inst-names d q is)
        | inr other ↦ subst (λ (v : List Inst). Apart (map (λ (inst : Inst). inst.name.id) v)) (sym (insts-other d q is.stands c other)) (names-apart d is.valid c)
      ]

  pub typed-after : (c : CellId) → All IsTypedInst (insts_at (after d q) c)
  typed-after c =
      elim (CellId-cases c q.cell) [
        | inl here ↦ subst (λ (v : List Inst). All IsTypedInst v) (sym (ap (insts_at (after d q)) here ∙ insts-after d q is.stands)) (insts-typed d q is)
        | inr other ↦ subst (λ (v : List Inst). All IsTypedInst v) (sym (insts-other d q is.stands c other)) (insts-typed-at d is.valid c)
      ]

  -- paths with one image are one
  pub one-image : (p r : List ℕ) (c : CellId) (moved : List ℕ) → path_after d q c p ≡ Some moved → path_after d q c r ≡ Some moved → p ≡ r
  one-image p r c moved e f =
      let dissolves = is_dissolves d q is.stands (fits-within d q is.stands is.valid) in
      elim (PathBefore-total p r) [
        | inl before ↦ twice (order_after d q is.stands dissolves p r c moved moved e f before)
        | inr rest ↦ elim rest [ inl same ↦ same | inr behind ↦ twice (order_after d q is.stands dissolves r p c moved moved f e behind) ]
      ]
    where
      twice : PathBefore moved moved → p ≡ r
      twice before = absurd (PathBefore-not_both moved moved before before)

  -- below cells that do not have the instance in them each path has an image
  pub has-image : (p : List ℕ) (c e : CellId) → (c ≡ q.cell → ⊥) → (IsBelow d q.cell c → ⊥) → Way d c p e → (moved : List ℕ) × (path_after d q c p ≡ Some moved)
  has-image [] c e other apart way = ([], refl)
  has-image (i ∷ p) c e other apart way =
      let inst = way.1.0 in
      let has : HasInst d c inst = slice_get-contains (insts_at d c) i inst way.1.1 in
      let deep = has-image p inst.of e
      (λ same. apart (subst (λ v. IsBelow d v c) same (placed inst has)))
      (λ below. apart (deeper inst has below)) (subst (λ v. Way d v p e) way.1.2 way.2) in
      (step_after q c i ∷ deep.0, path-on d q c i p inst deep.0 (λ here _. other here) way.1.1 deep.1)

  pub map-none : {A B : Type 0} (f : A → B) (o : Option A) → option_map f o ≡ None → o ≡ None
  map-none f None e = refl
  map-none f (Some x) e = absurd (cc e)

  -- a path without an image: it ends at the instance, and so do its identifiers
  pub no-image : (p : List ℕ) (c e : CellId) → Way d c p e → path_after d q c p ≡ None → moved_path d q.cell q.site c (names_along d c p) ≡ None
  no-image [] c e way none = absurd (cc none)
  no-image (i ∷ p) c e way none =
      let inst = way.1.0 in
      let at = way.1.1 in
      let steps = names_along d inst.of p in
      let later : Option (List (List ℕ)) = option_map (λ rest. inst.name.id ∷ rest) (option_map_or (λ (next : Inst). moved_path d q.cell q.site next.of steps) (inst_named inst.name.id (insts_at d c)) (Some steps)) in
      let outside : Option (List ℕ) = option_map (λ rest. step_after q c i ∷ rest) (option_and_then (λ (v : Inst). path_after d q v.of p) (slice_get (insts_at d c) i)) in
      ap (moved_path d q.cell q.site c) (along-step d c i p inst at)
      ∙ elim (dissolved-cases q c i) [
        | inl here ↦
            let there : slice_get (insts_at d q.cell) q.site.place ≡ Some inst =
            subst (λ v. slice_get (insts_at d v) q.site.place ≡ Some inst) here.1 (subst (λ v. slice_get (insts_at d c) v ≡ Some inst) here.2 at) in
            let same : inst ≡ q.site.inst =
            Some-same (slice_get q.site.around.insts q.site.place) (subst (λ v. slice_get v q.site.place ≡ Some inst) (insts-here d q.cell q.site.around is.stands.around) there) is.stands.inst in
            let test : (same_cell c q.cell && is_name inst.name.id q.site.inst.name.id) ≡ true =
            and_from (same_cell c q.cell) (is_name inst.name.id q.site.inst.name.id) (same_cell-refl c q.cell here.1)
            (subst (λ (v : Inst). is_name inst.name.id v.name.id ≡ true) same (is_name-refl inst.name.id)) in
            let empty : p ≡ [] = only p e (subst (λ v. Way d v p e) (way.1.2 ∙ ap (λ (v : Inst). v.of) same) way.2)
            (subst (λ b. cond b (path_inside d q p) outside ≡ None) here.0 none) in
            ap (λ b. cond b (past_inst q.site steps) later) test ∙ ap (λ v. past_inst q.site (names_along d inst.of v)) empty
        | inr other ↦
            let test : (same_cell c q.cell && is_name inst.name.id q.site.inst.name.id) ≡ false =
            false_from_ne_true (same_cell c q.cell && is_name inst.name.id q.site.inst.name.id) (λ t.
            let both = and_parts (same_cell c q.cell) (is_name inst.name.id q.site.inst.name.id) t in
            let cell = is_same_cell c q.cell both.0 in
            other.1 cell (place-of c i inst cell at (same_name inst.name.id q.site.inst.name.id both.1))) in
            let apart : outside ≡ None = subst (λ b. cond b (path_inside d q p) outside ≡ None) other.0 none in
            let rest : path_after d q inst.of p ≡ None =
            sym (ap (option_and_then (λ (v : Inst). path_after d q v.of p)) at)
            ∙ map-none (λ r. step_after q c i ∷ r) (option_and_then (λ (v : Inst). path_after d q v.of p) (slice_get (insts_at d c) i)) apart in
            let deep = no-image p inst.of e (subst (λ v. Way d v p e) way.1.2 way.2) rest in
            ap (λ b. cond b (past_inst q.site steps) later) test
            ∙ ap (λ o. option_map (λ r. inst.name.id ∷ r) (option_map_or (λ (next : Inst). moved_path d q.cell q.site next.of steps) o (Some steps))) (inst_named-at (insts_at d c) i inst (names-apart d is.valid c) at)
            ∙ ap (option_map (λ r. inst.name.id ∷ r)) deep
      ]
    where
      place-of : (c : CellId) (i : ℕ) (inst : Inst) → c ≡ q.cell → slice_get (insts_at d c) i ≡ Some inst → inst.name.id ≡ q.site.inst.name.id → i ≡ q.site.place
      place-of c i inst cell at same =
          let here : slice_get (insts_at d q.cell) i ≡ Some inst = subst (λ v. slice_get (insts_at d v) i ≡ Some inst) cell at in
          let there : slice_get (insts_at d q.cell) q.site.place ≡ Some q.site.inst =
          subst (λ v. slice_get v q.site.place ≡ Some q.site.inst) (sym (insts-here d q.cell q.site.around is.stands.around)) is.stands.inst in
          one-name (insts_at d q.cell) i q.site.place inst q.site.inst (names-apart d is.valid q.cell) here there same

      only : (p : List ℕ) (e : CellId) → Way d q.site.inst.of p e → path_inside d q p ≡ None → p ≡ []
      only [] e way none = refl
      only (j ∷ p) e way none =
          let inst = way.1.0 in
          let has : HasInst d q.site.inst.of inst = slice_get-contains (insts_at d q.site.inst.of) j inst way.1.1 in
          let below : IsBelow d inst.of q.cell = deeper q.site.inst (has-inst d q is.stands) (placed inst has) in
          let image = has-image p inst.of e
          (λ same. is.valid.no_cycle q.cell (subst (λ v. IsBelow d v q.cell) same below))
          (λ up. is.valid.no_cycle q.cell (below_trans d up below)) (subst (λ v. Way d v p e) way.1.2 way.2) in
          let at = subst (λ v. slice_get v j ≡ Some inst) (insts-here d q.site.inst.of q.site.within is.stands.within) way.1.1 in
          absurd (cc (sym none ∙ and_map-from (λ (v : Inst). path_after d q v.of p) (λ r. child_after q j ∷ r) (slice_get q.site.within.insts j) inst image.0 at image.1))

  -- identifiers that are moved lead along a path with an image
  pub record Moved (c : CellId) (path m : List (List ℕ)) : Type 0 where
    pub p : List ℕ
    pub e : CellId
    pub way : Way d c p e
    pub names : names_along d c p ≡ path
    pub moved : List ℕ
    pub at : path_after d q c p ≡ Some moved
    pub now : names_along (after d q) c moved ≡ m

  pub moved-parts : (c : CellId) (path m : List (List ℕ)) → Resolves d c path → moved_path d q.cell q.site c path ≡ Some m → Moved c path m
  moved-parts c path m r e =
      let w = resolves-way d path c r in
      go w.0 w.1 w.2 w.3 (path_after d q c w.0) refl
    where
      go : (p : List ℕ) (end : CellId) → Way d c p end → names_along d c p ≡ path → (o : Option (List ℕ)) → path_after d q c p ≡ o → Moved c path m
      go p end way names None at =
          absurd (cc (sym e ∙ ap (moved_path d q.cell q.site c) (sym names) ∙ no-image p c end way at))
      go p end way names (Some moved) at =
          let whole : ◌≡◌ {A = Option (List (List ℕ))} (Some (names_along (after d q) c moved)) (Some m) =
          sym (names_moved d q is p c moved at) ∙ ap (moved_path d q.cell q.site c) names ∙ e in
          record { p = p; e = end; way = way; names = names; moved = moved; at = at; now = cc whole }
