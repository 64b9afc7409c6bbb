-- The kept versions: which they are, and how one is found among them.
use Rattle.std.proofs.Common.{◌≡◌, ℕ, ◌<◌, ◌≤◌, cond, Bool, true, false, List, [], ◌∷◌, length, map, filter, Contains, inl, inr, refl, ap, sym, ◌∙◌, subst, arith, slice_get, option_map, unwrap_or, slice_index_or, Option, Some, None, Bor}
use Rattle.std.specs.List.{AllPairs}
use Rattle.std.specs.List.Sorted.{IsNonDecreasingBy, IsPartitionPoint}
use Rattle.std.specs.Ordering.{MatchOrdering, nat_cmp, ordering_index}
use Rattle.std.specs.declared.cmp.Ordering.{Ordering}
use Rattle.std.specs.declared.cmp.Ordering.TheVariants.{Less, Equal, Greater}
use Rattle.std.proofs.lemmas.Bool.{cases_lt}
use Rattle.std.proofs.lemmas.Bool.Decides.{nat_tests}
use Rattle.std.proofs.lemmas.Cmp.{ranked}
use Rattle.std.proofs.lemmas.List.{length-map, get_or-map}
use Rattle.db_version.specs.Shot.{Shot}
use Rattle.db_spec.specs.State.{State}
use Rattle.std.specs.Option.{MatchOption}
use Rattle.db_spec.specs.Answers.{IsKept}
use Rattle.db_spec.proofs.Lists.{in_cases, in_head, in_tail}
use Rattle.db_core.specs.Story.{shot}

-- ---- members of a mapped list

module _ {A B : Type 0} (f : A → B) where
  pub in_map : (x : A) (xs : List A) → Contains xs x → Contains (map f xs) (f x)
  in_map x [] m = absurd (omega (arith, m.1))
  in_map x (y ∷ ys) m = elim (in_cases y x ys m) [
    | inl e ↦ subst (λ (z : B). Contains (f y ∷ map f ys) z) (ap f e) (in_head (f y) (map f ys))
    | inr r ↦ in_tail (f y) (f x) (map f ys) (in_map x ys r)
  ]

  pub from_map : (z : B) (xs : List A) → Contains (map f xs) z → (x : A) × Contains xs x × (f x ≡ z)
  from_map z [] m = absurd (omega (arith, m.1))
  from_map z (y ∷ ys) m = elim (in_cases (f y) z (map f ys) m) [
    | inl e ↦ (y, in_head y ys, e)
    | inr r ↦ let rest = from_map z ys r in (rest.0, in_tail y rest.0 ys rest.1, rest.2)
  ]

  pub same_map : (g : A → B) (xs : List A) → ((x : A) → Contains xs x → f x ≡ g x) → map f xs ≡ map g xs
  same_map g [] each = refl
  same_map g (x ∷ xs) each = let first = each x (in_head x xs) in let rest = same_map g xs (λ y m. each y (in_tail x y xs m)) in λ i. first i ∷ rest i

-- ---- the shots of versions

module _ (s : State) where
  pub rising_shots : (vs : List ℕ) → AllPairs (λ v later. v < later) vs → AllPairs (λ (k : Shot) later. k.version < later.version) (map (shot s) vs)
  rising_shots vs rising i j d lt within =
      let long = length-map vs (shot s) in
      let first : (slice_index_or (map (shot s) vs) i d).version ≡ slice_index_or vs i 0 = ap (λ (k : Shot). k.version) (get_or-map (shot s) vs i 0 d (omega arith)) in
      let second : (slice_index_or (map (shot s) vs) j d).version ≡ slice_index_or vs j 0 = ap (λ (k : Shot). k.version) (get_or-map (shot s) vs j 0 d (omega arith)) in
      let above = rising i j 0 lt (omega arith) in omega arith

  -- a version that is found is kept
  pub kept_shot : (vs : List ℕ) (k : Shot) (v : ℕ) → Contains (map (shot s) vs) k → k.version ≡ v → Contains vs v × (k ≡ shot s v)
  kept_shot vs k v m e =
      let from = from_map (shot s) k vs m in
      let at : from.0 ≡ v = ap (λ (x : Shot). x.version) from.2 ∙ e in
      (subst (λ (w : ℕ). Contains vs w) at from.1, sym from.2 ∙ ap (shot s) at)

  -- and one that is not found is not
  pub no_shot : (vs : List ℕ) (v : ℕ) → ((k : Shot) → Contains (map (shot s) vs) k → ¬ (k.version ≡ v)) → ¬ Contains vs v
  no_shot vs v none m = none (shot s v) (in_map (shot s) v vs m) refl

  -- what is found among the kept versions
  abbrev pub FoundKept : ℕ → Option (Bor Shot) → Type 0
  FoundKept v found = MatchOption found (¬ IsKept s v) (λ kept. IsKept s v × (kept.now ≡ shot s v))

  pub found_kept : (v : ℕ) (ks : List Shot) (found : Option (Bor Shot)) → ks ≡ map (shot s) s.kept
      → MatchOption found ((k : Shot) → Contains ks k → ¬ (k.version ≡ v)) (λ kept. Contains ks kept.now × (kept.now.version ≡ v)) → FoundKept v found
  found_kept v ks None is none = no_shot s.kept v (λ k m. none k (subst (λ (xs : List Shot). Contains xs k) (sym is) m))
  found_kept v ks (Some kept) is one = kept_shot s.kept kept.now v (subst (λ (xs : List Shot). Contains xs kept.now) is one.0) one.1

  pub filter_shots : (test : ℕ → Bool) (vs : List ℕ) → filter (λ (k : Shot). test k.version) (map (shot s) vs) ≡ map (shot s) (filter test vs)
  filter_shots test [] = refl
  filter_shots test (v ∷ vs) = one (test v) (filter_shots test vs)
    where
      one : (b : Bool) → filter (λ (k : Shot). test k.version) (map (shot s) vs) ≡ map (shot s) (filter test vs)
          → cond b (shot s v ∷ filter (λ (k : Shot). test k.version) (map (shot s) vs)) (filter (λ (k : Shot). test k.version) (map (shot s) vs)) ≡ map (shot s) (cond b (v ∷ filter test vs) (filter test vs))
      one true e = ap (λ (ks : List Shot). shot s v ∷ ks) e
      one false e = e

  -- the first of the kept versions is the least
  pub first_is_least : (vs : List ℕ) → AllPairs (λ v later. v < later) vs → (h : ℕ) → Contains vs h
      → Contains vs (unwrap_or (option_map (λ (k : Shot). k.version) (slice_get (map (shot s) vs) 0)) 0) × ((v : ℕ) → Contains vs v → unwrap_or (option_map (λ (k : Shot). k.version) (slice_get (map (shot s) vs) 0)) 0 ≤ v)
  first_is_least [] rising h m = absurd (omega (arith, m.1))
  first_is_least (v ∷ vs) rising h m = (in_head v vs, λ w there. low w there.0 there.1 there.2)
    where
      low : (w k : ℕ) → k < length (v ∷ vs) → slice_index_or (v ∷ vs) k w ≡ w → v ≤ w
      low w k within at = elim (cases_lt 0 k) [
        | inl later ↦ let above : v < slice_index_or (v ∷ vs) k w = rising 0 k w later within in omega arith
        | inr first ↦ let none : k ≡ 0 = omega arith in let here : v ≡ w = subst (λ (n : ℕ). slice_index_or (v ∷ vs) n w ≡ w) none at in omega arith
      ]

-- ---- the search

index_rises : (a b v : ℕ) → a ≤ b → ordering_index (nat_cmp a v) ≤ ordering_index (nat_cmp b v)
index_rises a b v le = grind (arith, nat_tests)

compared : (a v : ℕ) (r : Ordering) → nat_cmp a v ≡ r → MatchOrdering r (a < v) (a ≡ v) (v < a)
compared a v r e = subst (λ (o : Ordering). MatchOrdering o (a < v) (a ≡ v) (v < a)) e (ranked a v (nat_cmp a v) refl)

module _ (ks : List Shot) (v : ℕ) where
  pub comparisons_rise : AllPairs (λ (k : Shot) later. k.version < later.version) ks → IsNonDecreasingBy (λ (k : Shot). ordering_index (nat_cmp k.version v)) ks
  comparisons_rise rising i j d le within = elim (cases_lt i j) [
    | inl lt ↦ let above = rising i j d lt within in index_rises (slice_index_or ks i d).version (slice_index_or ks j d).version v (omega arith)
    | inr ge ↦ let same : i ≡ j = omega arith in let at : (slice_index_or ks i d).version ≡ (slice_index_or ks j d).version = ap (λ (n : ℕ). (slice_index_or ks n d).version) same in
        index_rises (slice_index_or ks i d).version (slice_index_or ks j d).version v (omega arith)
  ]

  pub none_found : (at : ℕ) → IsPartitionPoint (λ (k : Shot). nat_cmp k.version v ≡ Less) (λ (k : Shot). nat_cmp k.version v ≡ Greater) ks at → (k : Shot) → Contains ks k → ¬ (k.version ≡ v)
  none_found at parted k m e = elim (cases_lt m.0 at) [
    | inl low ↦ let under : (slice_index_or ks m.0 k).version < v = compared _ v Less (parted.0 m.0 k (omega arith) low) in let is = ap (λ (x : Shot). x.version) m.2 in omega arith
    | inr high ↦ let over : v < (slice_index_or ks m.0 k).version = compared _ v Greater (parted.1 m.0 k high m.1) in let is = ap (λ (x : Shot). x.version) m.2 in omega arith
  ]

  pub one_found : (at : ℕ) (k : Shot) → at < length ks → k ≡ slice_index_or ks at k → nat_cmp (slice_index_or ks at k).version v ≡ Equal → Contains ks k × (k.version ≡ v)
  one_found at k within is equal = ((at, within, sym is), ap (λ (x : Shot). x.version) is ∙ compared (slice_index_or ks at k).version v Equal equal)
