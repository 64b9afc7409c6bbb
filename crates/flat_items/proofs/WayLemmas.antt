-- Ways by identifiers and by steps.
use Rattle.std.proofs.Common.{◌≡◌, ℕ, List, [], ◌∷◌, ◌++◌, map, refl, sym, ap, subst, ◌∙◌, inl, inr, append-nil, append_assoc, Some, None, Option, slice_get}
use Rattle.std.specs.Option.{option_map, option_map_or}
use Rattle.std.proofs.lemmas.Bool.{cases_order}
use Rattle.std.proofs.lemmas.Option.{slice_get-get_or, slice_get-map, slice_get_within, get_or_from_slice_get}
use Rattle.netlist_schema.specs.Design.{Design, cell_at, insts_of}
use Rattle.netlist_schema.specs.Hierarchy.{Resolves, insts_at}
use Rattle.netlist_schema.specs.Names.{AreDistinct}
use Rattle.netlist_schema.specs.Types.{CellBody, CellId, Inst}
use Rattle.netlist_schema.specs.Valid.{IsValid}
use Rattle.flat_spec.specs.Effective.{insts_along, names_along}
use Rattle.flat_spec.specs.Paths.{Reaches}
use Rattle.flat_spec.proofs.PathLemmas.{Reaches-cons, Reaches-parts, Some-same}
use Rattle.flat_items.specs.Ways.{IsNameFound, IsWay}

-- in a list of distinct identifiers each stands at one place
distinct_place : (names : List (List ℕ)) (i j : ℕ) (name : List ℕ) → AreDistinct names → slice_get names i ≡ Some name → slice_get names j ≡ Some name → i ≡ j
distinct_place names i j name distinct at bt = elim (cases_order i j) [
  | inl same ↦ same
  | inr apart ↦ elim apart [
    | inl less ↦ absurd (distinct i j name less (slice_get_within names j name bt) (get_or_from_slice_get names i name name at ∙ sym (get_or_from_slice_get names j name name bt)))
    | inr more ↦ absurd (distinct j i name more (slice_get_within names i name at) (get_or_from_slice_get names j name name bt ∙ sym (get_or_from_slice_get names i name name at)))
  ]
]

named_at : (insts : List Inst) (i : ℕ) (inst : Inst) → slice_get insts i ≡ Some inst → slice_get (map (λ (v : Inst). v.name.id) insts) i ≡ Some inst.name.id
named_at insts i inst at = slice_get-map (λ (v : Inst). v.name.id) insts i ∙ ap (option_map (λ (v : Inst). v.name.id)) at

-- in a cell of a valid design an identifier is that of one instance
module _ (d : Design) (valid : IsValid d) where
  pub one_place : (c : CellId) (i j : ℕ) (a b : Inst) → slice_get (insts_at d c) i ≡ Some a → slice_get (insts_at d c) j ≡ Some b → a.name.id ≡ b.name.id → i ≡ j
  one_place c i j a b at bt same = go (cell_at d c) refl at bt
    where
      go : (o : Option CellBody) → cell_at d c ≡ o → slice_get (option_map_or insts_of o []) i ≡ Some a → slice_get (option_map_or insts_of o []) j ≡ Some b → i ≡ j
      go None found at bt = absurd (cc at)
      go (Some body) found at bt =
          distinct_place (map (λ (v : Inst). v.name.id) (insts_of body)) i j b.name.id (valid.cells c body found).names.insts
          (named_at (insts_of body) i a at ∙ ap Some same) (named_at (insts_of body) j b bt)

  -- a step along the instance with the first of the identifiers
  way_step : (c : CellId) (place : ℕ) (inst : Inst) (names : List (List ℕ)) (rest : List ℕ) → slice_get (insts_at d c) place ≡ Some inst → IsWay d inst.of names rest
      → IsWay d c (inst.name.id ∷ names) (place ∷ rest)
  way_step c place inst names rest at way = record {
    end = way.end;
    reached = Reaches-cons d c place inst rest way.end at way.reached;
    named =
        ap (λ o. map (λ (v : Inst). v.name.id) (option_map_or (λ (v : Inst). v ∷ insts_along d v.of rest) o [])) at
        ∙ ap (λ v. inst.name.id ∷ v) way.named;
  }

  -- what is left of a way, and how it goes on to the whole of it
  pub record IsOnWay (top c : CellId) (names ahead : List (List ℕ)) (steps : List ℕ) : Type 0 where
    pub resolves : Resolves d c ahead
    pub whole : (rest : List ℕ) → IsWay d c ahead rest → IsWay d top names (steps ++ rest)

  pub way_begins : (top : CellId) (names : List (List ℕ)) → Resolves d top names → IsOnWay top top names names []
  way_begins top names resolves = record { resolves = resolves; whole = λ rest way. way }

  pub way_more : (top c : CellId) (names : List (List ℕ)) (name : List ℕ) (ahead : List (List ℕ)) (steps : List ℕ) (place : ℕ) (inst : Inst) → slice_get (insts_at d c) place ≡ Some inst
      → inst.name.id ≡ name → IsOnWay top c names (name ∷ ahead) steps → IsOnWay top inst.of names ahead (steps ++ place ∷ [])
  way_more top c names name ahead steps place inst at named on =
      let next = on.resolves in
      let other : slice_get (insts_at d c) next.1.0 ≡ Some next.0 = slice_get-get_or (insts_at d c) next.1.0 next.0 next.1.1 ∙ ap Some next.1.2 in
      let same : place ≡ next.1.0 = one_place c place next.1.0 inst next.0 at other (named ∙ sym next.2) in
      let one : next.0 ≡ inst = Some-same _ (ap (slice_get (insts_at d c)) same ∙ other) at in
      record {
        resolves = subst (λ (v : Inst). Resolves d v.of ahead) one next.3;
        whole = λ rest way.
            let step = subst (λ v. IsWay d c (v ∷ ahead) (place ∷ rest)) named (way_step c place inst ahead rest at way) in
            subst (λ v. IsWay d top names v) (sym (append_assoc steps (place ∷ []) rest)) (on.whole (place ∷ rest) step);
      }

  pub way_ends : (top c : CellId) (names : List (List ℕ)) (steps : List ℕ) → IsOnWay top c names [] steps → IsWay d top names steps
  way_ends top c names steps on = subst (λ v. IsWay d top names v) (append-nil steps) (on.whole [] (record { end = c; reached = refl; named = refl }))

  pub way_lost : (top c : CellId) (names : List (List ℕ)) (name : List ℕ) (ahead : List (List ℕ)) (steps : List ℕ) → IsNameFound (insts_at d c) name None → IsOnWay top c names (name ∷ ahead) steps → ⊥
  way_lost top c names name ahead steps none on = none on.resolves.0 on.resolves.1 on.resolves.2

  -- one way at most leads along these identifiers
  pub one_way : (c e f : CellId) (p q : List ℕ) → Reaches d c p e → Reaches d c q f → names_along d c p ≡ names_along d c q → p ≡ q
  one_way c e f [] [] at bt same = refl
  one_way c e f [] (j ∷ q) at bt same =
      let b = Reaches-parts d c j q f bt in
      let name = ap (λ o. map (λ (v : Inst). v.name.id) (option_map_or (λ (v : Inst). v ∷ insts_along d v.of q) o [])) b.1 in
      absurd (cc (same, name))
  one_way c e f (i ∷ p) [] at bt same =
      let a = Reaches-parts d c i p e at in
      let name = ap (λ o. map (λ (v : Inst). v.name.id) (option_map_or (λ (v : Inst). v ∷ insts_along d v.of p) o [])) a.1 in
      absurd (cc (same, name))
  one_way c e f (i ∷ p) (j ∷ q) at bt same =
      let a = Reaches-parts d c i p e at in
      let b = Reaches-parts d c j q f bt in
      let left : names_along d c (i ∷ p) ≡ a.0.name.id ∷ names_along d a.0.of p = ap (λ o. map (λ (v : Inst). v.name.id) (option_map_or (λ (v : Inst). v ∷ insts_along d v.of p) o [])) a.1 in
      let right : names_along d c (j ∷ q) ≡ b.0.name.id ∷ names_along d b.0.of q = ap (λ o. map (λ (v : Inst). v.name.id) (option_map_or (λ (v : Inst). v ∷ insts_along d v.of q) o [])) b.1 in
      let both : a.0.name.id ∷ names_along d a.0.of p ≡ b.0.name.id ∷ names_along d b.0.of q = sym left ∙ same ∙ right in
      let place : i ≡ j = one_place c i j a.0 b.0 a.1 b.1 (head-same both) in
      let inst : a.0 ≡ b.0 = Some-same _ a.1 (ap (slice_get (insts_at d c)) place ∙ b.1) in
      let rest : names_along d a.0.of p ≡ names_along d a.0.of q = tail-same both ∙ ap (λ (v : Inst). names_along d v.of q) (sym inst) in
      let more = one_way a.0.of e f p q a.2 (subst (λ (v : Inst). Reaches d v.of q f) (sym inst) b.2) rest in
      λ t. place t ∷ more t
    where
      head-same : {x y : List ℕ} {xs ys : List (List ℕ)} → x ∷ xs ≡ y ∷ ys → x ≡ y
      head-same e = cc e

      tail-same : {x y : List ℕ} {xs ys : List (List ℕ)} → x ∷ xs ≡ y ∷ ys → xs ≡ ys
      tail-same e = cc e
