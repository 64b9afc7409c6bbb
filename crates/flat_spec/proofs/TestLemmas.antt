-- What the tests on ends, nets and meets tell.
use Rattle.std.proofs.Common.{◌≡◌, ℕ, List, [], ◌∷◌, ◌++◌, Bool, true, false, ◌&&◌, nat_eq, refl, sym, ap, subst, ◌∙◌, inl, inr, Option, Some, None}
use Rattle.std.specs.Cmp.Lexicographic.{pointwise, pointwise_decides}
use Rattle.std.specs.List.{Contains, list_any}
use Rattle.std.specs.Option.{option_eq, option_map_or}
use Rattle.std.proofs.lemmas.Bool.{and_parts, and_from, or_left, or_right, or_cases, eqb-true, eq-eqb, false≢true}
use Rattle.std.proofs.lemmas.List.Folds.{Any-from_list_any, list_any-from_Any}
use Rattle.std.proofs.lemmas.Option.{none-some, same_Some}
use Rattle.netlist_schema.specs.Design.{Design}
use Rattle.netlist_schema.specs.Types.{CellId, End}
use Rattle.flat_spec.specs.Connection.{Meets, AreNeighbours}
use Rattle.flat_spec.specs.ConnectionTest.{same_end, has_end, bit_of, share_bit, above, meets, are_neighbours, same_net}
use Rattle.flat_spec.specs.Paths.{Bit, own, on, ends_at}
use Rattle.flat_spec.specs.declared.item.NetAt.{NetAt}

same_inst-true : (i j : Option ℕ) → option_eq nat_eq i j ≡ true → i ≡ j
same_inst-true None None e = refl
same_inst-true None (Some j) e = absurd (false≢true e)
same_inst-true (Some i) None e = absurd (false≢true e)
same_inst-true (Some i) (Some j) e = ap Some (eqb-true i j e)

same_inst-refl : (i : Option ℕ) → option_eq nat_eq i i ≡ true
same_inst-refl None = refl
same_inst-refl (Some i) = eq-eqb i i refl

pub same_end-true : (e f : End) → same_end e f ≡ true → e ≡ f
same_end-true e f t =
    let outer = and_parts _ _ t in
    let inner = and_parts _ _ outer.1 in
    let i = same_inst-true e.inst f.inst outer.0 in
    let p = eqb-true e.port f.port inner.0 in
    let b = eqb-true e.bit f.bit inner.1 in
    λ k. record { inst = i k; port = p k; bit = b k }

pub same_end-refl : (e : End) → same_end e e ≡ true
same_end-refl e = and_from _ _ (same_inst-refl e.inst) (and_from _ _ (eq-eqb e.port e.port refl) (eq-eqb e.bit e.bit refl))

pub same_path : (p q : List ℕ) → (pointwise nat_eq p q ≡ true → p ≡ q) × (p ≡ q → pointwise nat_eq p q ≡ true)
same_path = pointwise_decides (λ x y. (eqb-true x y, eq-eqb x y))

pub same_net-true : (x y : NetAt) → same_net x y ≡ true → x ≡ y
same_net-true x y e =
    let parts = and_parts _ _ e in
    let path = (same_path x.path y.path).0 parts.0 in
    let net = eqb-true x.net y.net parts.1 in
    λ k. record { path = path k; net = net k }

pub same_net-refl : (x : NetAt) → same_net x x ≡ true
same_net-refl x = and_from _ _ ((same_path x.path x.path).1 refl) (eq-eqb x.net x.net refl)

-- an element that passes
any-true : {A : Type 0} (test : A → Bool) (xs : List A) → list_any test xs ≡ true → (x : A) × Contains xs x × (test x ≡ true)
any-true test xs e = let found = Any-from_list_any test xs e in (found.1, (found.0, found.2, found.3), found.4)

any-from : {A : Type 0} (test : A → Bool) (xs : List A) (x : A) → Contains xs x → test x ≡ true → list_any test xs ≡ true
any-from test xs x c e = list_any-from_Any test xs (c.0, x, c.1, c.2, e)

pub has_end-true : (ends : List End) (e : End) → has_end ends e ≡ true → Contains ends e
has_end-true ends e t =
    let found = any-true (same_end e) ends t in
    subst (λ v. Contains ends v) (sym (same_end-true e found.0 found.2)) found.1

pub has_end-from : (ends : List End) (e : End) → Contains ends e → has_end ends e ≡ true
has_end-from ends e c = any-from (same_end e) ends e c (same_end-refl e)

pub share_bit-true : (step : ℕ) (upper lower : List End) → share_bit step upper lower ≡ true
    → (b : Bit) × Contains upper (on step b) × Contains lower (own b)
share_bit-true step upper lower t =
    let found = any-true _ lower t in
    let both = and_parts _ _ found.2 in
    let b = bit_of found.0 in (
      b,
      has_end-true upper (on step b) both.1,
      subst (λ v. Contains lower v) (same_end-true found.0 (own b) both.0) found.1,
    )

pub share_bit-from : (step : ℕ) (upper lower : List End) (b : Bit) → Contains upper (on step b) → Contains lower (own b)
    → share_bit step upper lower ≡ true
share_bit-from step upper lower b up low =
    any-from _ lower (own b) low (and_from _ _ (same_end-refl (own b)) (has_end-from upper (on step b) up))

above-none : (path : List ℕ) → above path ≡ None → path ≡ []
above-none [] e = refl
above-none (i ∷ path) e = absurd (none-some _ (sym e))

-- a path is what is above it and its last step
pub above-some : (path : List ℕ) (up : List ℕ × ℕ) → above path ≡ Some up → path ≡ up.0 ++ up.1 ∷ []
above-some [] up e = absurd (none-some up e)
above-some (i ∷ path) up e = deep (above path) refl (λ v is. above-some path v is) e
  where
    deep : (o : Option (List ℕ × ℕ)) → above path ≡ o → ((v : List ℕ × ℕ) → above path ≡ Some v → path ≡ v.0 ++ v.1 ∷ [])
        → ◌≡◌ {A = Option (List ℕ × ℕ)} (Some (option_map_or (λ (v : List ℕ × ℕ). (i ∷ v.0, v.1)) o ([], i))) (Some up)
        → i ∷ path ≡ up.0 ++ up.1 ∷ []
    deep None is further e =
        subst (λ (u : List ℕ × ℕ). i ∷ path ≡ u.0 ++ u.1 ∷ []) (same_Some _ _ e) (ap (λ p. i ∷ p) (above-none path is))
    deep (Some v) is further e =
        subst (λ (u : List ℕ × ℕ). i ∷ path ≡ u.0 ++ u.1 ∷ []) (same_Some _ _ e) (ap (λ p. i ∷ p) (further v is))

pub above-append : (path : List ℕ) (i : ℕ) → above (path ++ i ∷ []) ≡ Some (path, i)
above-append [] i = refl
above-append (j ∷ path) i =
    ap (λ o. Some (option_map_or (λ (v : List ℕ × ℕ). (j ∷ v.0, v.1)) o ([], j))) (above-append path i)

map_or-true : {A : Type 0} (f : A → Bool) (o : Option A) → option_map_or f o false ≡ true → (x : A) × (o ≡ Some x) × (f x ≡ true)
map_or-true f None e = absurd (false≢true e)
map_or-true f (Some x) e = (x, refl, e)

pub meets-true : (d : Design) (root : CellId) (x y : NetAt) → meets d root x y ≡ true → Meets d root x y
meets-true d root x y e =
    let up = map_or-true _ (above y.path) e in
    let parts = and_parts _ _ up.2 in
    let shared = share_bit-true up.0.1 (ends_at d root x) (ends_at d root y) parts.1 in
    let path_is = (same_path up.0.0 x.path).0 parts.0 in
    record {
      step = up.0.1;
      joint = shared.0;
      below = above-some y.path up.0 up.1 ∙ ap (λ p. p ++ up.0.1 ∷ []) path_is;
      joins_on = shared.1;
      joins_own = shared.2;
    }

pub meets-from : (d : Design) (root : CellId) (x y : NetAt) → Meets d root x y → meets d root x y ≡ true
meets-from d root x y m =
    let up : above y.path ≡ Some (x.path, m.step) = ap above m.below ∙ above-append x.path m.step in
    let shared = share_bit-from m.step (ends_at d root x) (ends_at d root y) m.joint m.joins_on m.joins_own in
    subst (λ o. option_map_or
    (λ (up : List ℕ × ℕ). pointwise nat_eq up.0 x.path && share_bit up.1 (ends_at d root x) (ends_at d root y)) o false ≡ true)
    (sym up) (and_from _ _ ((same_path x.path x.path).1 refl) shared)

pub are_neighbours-true : (d : Design) (root : CellId) (x y : NetAt) → are_neighbours d root x y ≡ true → AreNeighbours d root x y
are_neighbours-true d root x y e =
    elim (or_cases _ _ e) [ inl down ↦ inl (meets-true d root x y down) | inr up ↦ inr (meets-true d root y x up) ]

pub are_neighbours-from : (d : Design) (root : CellId) (x y : NetAt) → AreNeighbours d root x y → are_neighbours d root x y ≡ true
are_neighbours-from d root x y t =
    elim t [
      | inl down ↦ or_left _ _ (meets-from d root x y down)
      | inr up ↦ or_right _ _ (meets-from d root y x up)
    ]

-- ---- lists of names

pub names_same : (a b : List (List ℕ)) → pointwise (pointwise nat_eq) a b ≡ true → a ≡ b
names_same [] [] e = refl
names_same [] (y ∷ b) e = absurd (false≢true e)
names_same (x ∷ a) [] e = absurd (false≢true e)
names_same (x ∷ a) (y ∷ b) e =
    let parts = and_parts (pointwise nat_eq x y) (pointwise (pointwise nat_eq) a b) e in
    let head = (same_path x y).0 parts.0 in
    let tail = names_same a b parts.1 in
    λ i. head i ∷ tail i

pub names_refl : (a : List (List ℕ)) → pointwise (pointwise nat_eq) a a ≡ true
names_refl [] = refl
names_refl (x ∷ a) = and_from (pointwise nat_eq x x) (pointwise (pointwise nat_eq) a a) ((same_path x x).1 refl) (names_refl a)
