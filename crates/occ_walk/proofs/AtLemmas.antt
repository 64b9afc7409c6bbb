-- The items at and below a path are those of the flattening whose paths begin with it.
use Rattle.std.proofs.Common.{◌≡◌, ℕ, List, [], ◌∷◌, ◌++◌, map, refl, sym, ap, subst, ◌∙◌, inl, inr, Bool, true, false, Some}
use Rattle.std.specs.Prelude.{cond, filter, nat_eq}
use Rattle.std.specs.List.{flat_map, range_with_len}
use Rattle.std.specs.Option.{option_map_or}
use Rattle.std.proofs.lemmas.Bool.{and_from, and_parts, cond-false, cond-true, eq-eqb, eqb-true, false≢true}
use Rattle.std.proofs.lemmas.List.Elements.{filter-append}
use Rattle.netlist_schema.specs.Design.{Design, cell_at}
use Rattle.netlist_schema.specs.Hierarchy.{NoCellIsBelowItself}
use Rattle.netlist_schema.specs.Types.{CellId, TopHead}
use Rattle.flat_spec.specs.Below.{items_under, under_path}
use Rattle.flat_spec.specs.Flattening.{items_of, net_item, pin_item}
use Rattle.flat_spec.specs.Occurrences.{Occurrence, occurrences, own_nets}
use Rattle.flat_spec.specs.PathOrder.{PathBefore}
use Rattle.flat_spec.specs.Paths.{Reaches, at_path}
use Rattle.flat_spec.specs.Pins.{shown_bits}
use Rattle.flat_spec.specs.Types.{Item, NetAt}
use Rattle.flat_spec.proofs.BelowLemmas.{Ascends-same}
use Rattle.flat_spec.proofs.ListLemmas.{Ascends, Ascends-map, Member, Member-append_cases, Member-from_map, Member-map}
use Rattle.flat_spec.proofs.OccurrenceLemmas.{occurrences-member, occurrences-reaches, occurrences_are_all}
use Rattle.flat_spec.proofs.PathLemmas.{Reaches-append, Reaches-front, Some-same}
use Rattle.flat_spec.proofs.PinLemmas.{AllPairs-ascends}
use Rattle.flat_spec.proofs.RepresentativeLemmas.{PathBefore-not_both}
use Rattle.occ_walk.specs.At.{begins_with, items_below, path_of}

-- what stands behind a beginning
begins-append : (front rest : List ℕ) → begins_with front (front ++ rest) ≡ true
begins-append [] rest = refl
begins-append (i ∷ front) rest = and_from (nat_eq i i) (begins_with front (front ++ rest)) (eq-eqb i i refl) (begins-append front rest)

begins-rest : (front path : List ℕ) → begins_with front path ≡ true → (rest : List ℕ) × (path ≡ front ++ rest)
begins-rest [] path is = (path, refl)
begins-rest (i ∷ front) [] is = absurd (false≢true is)
begins-rest (i ∷ front) (j ∷ path) is =
    let parts = and_parts (nat_eq i j) (begins_with front path) is in
    let more = begins-rest front path parts.1 in
    let same : i ≡ j = eqb-true i j parts.0 in
    (more.0, λ t. sym same t ∷ more.1 t)

-- the order of occurrences
abbrev Earlier : Occurrence → Occurrence → Type 0
Earlier o q = PathBefore o.path q.path

earlier_below : (path p q : List ℕ) → PathBefore p q → PathBefore (path ++ p) (path ++ q)
earlier_below [] p q h = h
earlier_below (i ∷ path) p q h = inr (refl, earlier_below path p q h)

-- all of a list is kept, or nothing
keeps_all : (test : Item → Bool) (b : Bool) (xs : List Item) → ((x : Item) → Member xs x → test x ≡ b) → filter test xs ≡ cond b xs []
keeps_all test true [] same = refl
keeps_all test false [] same = refl
keeps_all test true (x ∷ xs) same =
    cond-true (test x) (x ∷ filter test xs) (filter test xs) (same x (inl refl)) ∙ ap (λ v. x ∷ v) (keeps_all test true xs (λ y m. same y (inr m)))
keeps_all test false (x ∷ xs) same =
    cond-false (test x) (x ∷ filter test xs) (filter test xs) (same x (inl refl)) ∙ keeps_all test false xs (λ y m. same y (inr m))

-- each item of an occurrence has its path
item_path : (d : Design) (top : TopHead) (o : Occurrence) (x : Item) → Member (items_of d top o) x → path_of x ≡ o.path
item_path d top o x m = elim m [
  | inl first ↦ sym (ap path_of first)
  | inr rest ↦ elim (Member-append_cases nets pins x rest) [
    | inl net ↦
        let from = Member-from_map (net_item d top.cell) (own_nets d o) x net in
        let at = Member-from_map (at_path o.path) (range_with_len 0 _) from.0 from.1 in
        sym (ap path_of from.2) ∙ ap (λ (v : NetAt). v.path) (sym at.2)
    | inr pin ↦ let from = Member-from_map (pin_item d top.cell o.path) (option_map_or (shown_bits o.path) (cell_at d o.cell) []) x pin in sym (ap path_of from.2)
  ]
]
  where
    nets : List Item
    nets = map (net_item d top.cell) (own_nets d o)

    pins : List Item
    pins = map (pin_item d top.cell o.path) (option_map_or (shown_bits o.path) (cell_at d o.cell) [])

module _ (d : Design) (acyclic : NoCellIsBelowItself d) (top : TopHead) (path : List ℕ) where
  abbrev test : Item → Bool
  test item = begins_with path (path_of item)

  abbrev is_below : Occurrence → Bool
  is_below o = begins_with path o.path

  one_kept : (o : Occurrence) → filter test (items_of d top o) ≡ cond (is_below o) (items_of d top o) []
  one_kept o = keeps_all test (is_below o) (items_of d top o) (λ x m. ap (begins_with path) (item_path d top o x m))

  each_kept : (os : List Occurrence) → filter test (flat_map (items_of d top) os) ≡ flat_map (items_of d top) (filter is_below os)
  each_kept [] = refl
  each_kept (o ∷ os) =
      filter-append test (items_of d top o) (flat_map (items_of d top) os)
      ∙ (λ t. one_kept o t ++ each_kept os t)
      ∙ go (is_below o)
    where
      go : (b : Bool) → cond b (items_of d top o) [] ++ flat_map (items_of d top) (filter is_below os)
          ≡ flat_map (items_of d top) (cond b (o ∷ filter is_below os) (filter is_below os))
      go true = refl
      go false = refl

  kept : (os : List Occurrence) (o : Occurrence) → Member (filter is_below os) o → Member os o × (is_below o ≡ true)
  kept [] o m = absurd m
  kept (x ∷ os) o m = go (is_below x) refl m (λ rest. kept os o rest)
    where
      go : (b : Bool) → is_below x ≡ b → Member (cond b (x ∷ filter is_below os) (filter is_below os)) o → (Member (filter is_below os) o → Member os o × (is_below o ≡ true))
          → Member (x ∷ os) o × (is_below o ≡ true)
      go true is (inl same) more = (inl same, sym (ap is_below same) ∙ is)
      go true is (inr rest) more = let r = more rest in (inr r.0, r.1)
      go false is rest more = let r = more rest in (inr r.0, r.1)

  keeps : (os : List Occurrence) (o : Occurrence) → Member os o → is_below o ≡ true → Member (filter is_below os) o
  keeps [] o m passes = absurd m
  keeps (x ∷ os) o m passes = go (is_below x) refl m (λ rest. keeps os o rest passes)
    where
      go : (b : Bool) → is_below x ≡ b → Member (x ∷ os) o → (Member os o → Member (filter is_below os) o) → Member (cond b (x ∷ filter is_below os) (filter is_below os)) o
      go true is (inl same) more = inl same
      go true is (inr rest) more = inr (more rest)
      go false is (inl same) more = absurd (false≢true (sym is ∙ ap is_below same ∙ passes))
      go false is (inr rest) more = more rest

  kept_ascend : (os : List Occurrence) → Ascends Earlier os → Ascends Earlier (filter is_below os)
  kept_ascend [] p = tt
  kept_ascend (x ∷ os) p = go (is_below x) (kept_ascend os p.1)
    where
      go : (b : Bool) → Ascends Earlier (filter is_below os) → Ascends Earlier (cond b (x ∷ filter is_below os) (filter is_below os))
      go true rest = (λ y m. p.0 y (kept os y m).0, rest)
      go false rest = rest

  all_ascend : (c : CellId) → Ascends Earlier (occurrences d c)
  all_ascend c = AllPairs-ascends Earlier (occurrences d c) (occurrences_are_all d c acyclic).in_order

  module _ (c : CellId) (at : Reaches d top.cell path c) where
    kept_is_under : (o : Occurrence) → Member (filter is_below (occurrences d top.cell)) o → Member (map (under_path path) (occurrences d c)) o
    kept_is_under o m =
        let from = kept (occurrences d top.cell) o m in
        let rest = begins-rest path o.path from.1 in
        let reached : Reaches d top.cell (path ++ rest.0) o.cell = subst (λ p. Reaches d top.cell p o.cell) rest.1 (occurrences-reaches d acyclic top.cell o from.0) in
        let front = Reaches-front d top.cell o.cell path rest.0 reached in
        let same : front.0 ≡ c = Some-same _ front.1 at in
        let inner : Reaches d c rest.0 o.cell = subst (λ (v : CellId). Reaches d v rest.0 o.cell) same front.2 in
        let here : Occurrence = record { path = rest.0; cell = o.cell } in
        let is : under_path path here ≡ o = λ t. record { path = sym rest.1 t; cell = o.cell } in
        subst (Member (map (under_path path) (occurrences d c))) is (Member-map (under_path path) (occurrences d c) here (occurrences-member d acyclic c here inner))

    under_is_kept : (o : Occurrence) → Member (map (under_path path) (occurrences d c)) o → Member (filter is_below (occurrences d top.cell)) o
    under_is_kept o m =
        let from = Member-from_map (under_path path) (occurrences d c) o m in
        let there : Occurrence = under_path path from.0 in
        let reached : Reaches d top.cell there.path there.cell =
        Reaches-append d top.cell c from.0.cell path from.0.path at (occurrences-reaches d acyclic c from.0 from.1) in
        subst (Member (filter is_below (occurrences d top.cell))) from.2
        (keeps (occurrences d top.cell) there (occurrences-member d acyclic top.cell there reached) (begins-append path from.0.path))

    occurrences_below : filter is_below (occurrences d top.cell) ≡ map (under_path path) (occurrences d c)
    occurrences_below =
        Ascends-same Earlier (λ o q h k. PathBefore-not_both o.path q.path h k) (filter is_below (occurrences d top.cell)) (map (under_path path) (occurrences d c))
        (kept_ascend (occurrences d top.cell) (all_ascend top.cell))
        (Ascends-map Earlier Earlier (under_path path) (λ o q h. earlier_below path o.path q.path h) (occurrences d c) (all_ascend c))
        kept_is_under under_is_kept

    -- the items of the flattening whose paths begin with this one are those at and below it
    pub items_below_are_under : d.top ≡ Some top → items_below d path ≡ items_under d top path c
    items_below_are_under is =
        ap (λ t. filter test (option_map_or (λ (v : TopHead). flat_map (items_of d v) (occurrences d v.cell)) t [])) is
        ∙ each_kept (occurrences d top.cell)
        ∙ ap (flat_map (items_of d top)) occurrences_below
