-- Pairs before and behind others: what is found, put and in order.
use Rattle.std.proofs.Common.{◌≡◌, ℕ, zero, suc, ◌<◌, ◌≤◌, IsTrue, List, [], ◌∷◌, ◌++◌, length, take, drop, None, inl, inr, refl, sym, ap, ◌∙◌, subst, append_assoc, arith}
use Rattle.std.specs.Ordering.{nat_cmp}
use Rattle.std.specs.FinMap.{find, put, is_sorted}
use Rattle.std.specs.FinMap.Entries.{below_all}
use Rattle.std.proofs.lemmas.Bool.{cases_order, and_parts, and_from}
use Rattle.ver_table.specs.Entries.{with_all, slot_at, GivesWay, IsInOrder}
use Rattle.ver_table.specs.Pages.{Each}
use Rattle.ver_table.proofs.Places.{cmp_below, cmp_above, cmp_same, below_from_cmp, rest_in_order}
use Rattle.ver_table.proofs.Maps.{put_way}

module _ {X : Type 0} where
  pub Each-weaker : (P Q : X → Type 0) → ((x : X) → P x → Q x) → (xs : List X) → Each P xs → Each Q xs
  Each-weaker P Q f [] h = tt
  Each-weaker P Q f (x ∷ xs) h = (f x h.0, Each-weaker P Q f xs h.1)

  pub Each-append : (P : X → Type 0) → (xs ys : List X) → Each P xs → Each P ys → Each P (xs ++ ys)
  Each-append P [] ys h k = k
  Each-append P (x ∷ xs) ys h k = (h.0, Each-append P xs ys h.1 k)

  pub Each-take : (P : X → Type 0) → (n : ℕ) (xs : List X) → Each P xs → Each P (take n xs)
  Each-take P zero xs h = tt
  Each-take P (suc n) [] h = tt
  Each-take P (suc n) (x ∷ xs) h = (h.0, Each-take P n xs h.1)

  pub Each-drop : (P : X → Type 0) → (n : ℕ) (xs : List X) → Each P xs → Each P (drop n xs)
  Each-drop P zero xs h = h
  Each-drop P (suc n) [] h = tt
  Each-drop P (suc n) (x ∷ xs) h = Each-drop P n xs h.1

module _ {V : Type 0} where
  -- a pair behind lower ones
  pub put_behind : (k : ℕ) (v : V) (front ps : List (ℕ × V)) → Each (λ p. p.0 < k) front → put nat_cmp k v (front ++ ps) ≡ front ++ put nat_cmp k v ps
  put_behind k v [] ps h = refl
  put_behind k v (p ∷ front) ps h = rw (cmp_above k p.0 h.0) (ap (λ qs. p ∷ qs) (put_behind k v front ps h.1))

  pub find_behind : (k : ℕ) (front ps : List (ℕ × V)) → Each (λ p. p.0 < k) front → find nat_cmp k (front ++ ps) ≡ find nat_cmp k ps
  find_behind k [] ps h = refl
  find_behind k (p ∷ front) ps h = rw (cmp_above k p.0 h.0) (find_behind k front ps h.1)

  -- a pair before higher ones
  put_first : (k : ℕ) (v : V) (ps : List (ℕ × V)) → Each (λ p. k < p.0) ps → put nat_cmp k v ps ≡ (k, v) ∷ ps
  put_first k v [] h = refl
  put_first k v (p ∷ ps) h = rw (cmp_below k p.0 h.0) refl

  pub put_before : (k : ℕ) (v : V) (ps back : List (ℕ × V)) → Each (λ p. k < p.0) back → put nat_cmp k v (ps ++ back) ≡ put nat_cmp k v ps ++ back
  put_before k v [] back h = put_first k v back h
  put_before k v (p ∷ ps) back h = elim (cases_order k p.0) [
    | inl e ↦ rw (cmp_same k p.0 e) refl
    | inr (inl less) ↦ rw (cmp_below k p.0 less) refl
    | inr (inr more) ↦ rw (cmp_above k p.0 more) (ap (λ qs. p ∷ qs) (put_before k v ps back h))
  ]

  pub find_none : (k : ℕ) (ps : List (ℕ × V)) → Each (λ p. k < p.0) ps → find nat_cmp k ps ≡ None
  find_none k [] h = refl
  find_none k (p ∷ ps) h = rw (cmp_below k p.0 h.0) (find_none k ps h.1)

  pub find_before : (k : ℕ) (ps back : List (ℕ × V)) → Each (λ p. k < p.0) back → find nat_cmp k (ps ++ back) ≡ find nat_cmp k ps
  find_before k [] back h = find_none k back h
  find_before k (p ∷ ps) back h = elim (cases_order k p.0) [
    | inl e ↦ rw (cmp_same k p.0 e) refl
    | inr (inl less) ↦ rw (cmp_below k p.0 less) (find_before k ps back h)
    | inr (inr more) ↦ rw (cmp_above k p.0 more) (find_before k ps back h)
  ]

  -- what holds of a pair and of others holds of these with the pair
  pub Each-put : (P : ℕ × V → Type 0) → (k : ℕ) (v : V) (ps : List (ℕ × V)) → P (k, v) → Each P ps → Each P (put nat_cmp k v ps)
  Each-put P k v [] h each = (h, tt)
  Each-put P k v (p ∷ ps) h each = elim (cases_order k p.0) [
    | inl e ↦ rw (cmp_same k p.0 e) (subst (λ (n : ℕ). P (n, v)) e h, each.1)
    | inr (inl less) ↦ rw (cmp_below k p.0 less) (h, each)
    | inr (inr more) ↦ rw (cmp_above k p.0 more) (each.0, Each-put P k v ps h each.1)
  ]

  pub put_some : (k : ℕ) (v : V) (ps : List (ℕ × V)) → 0 < length (put nat_cmp k v ps)
  put_some k v [] = omega arith
  put_some k v (p ∷ ps) = elim (cases_order k p.0) [
    | inl e ↦ rw (cmp_same k p.0 e) (omega arith)
    | inr (inl less) ↦ rw (cmp_below k p.0 less) (omega arith)
    | inr (inr more) ↦ rw (cmp_above k p.0 more) (omega arith)
  ]

  -- the pairs behind the first of pairs in order are higher
  higher_all : (k : ℕ) (ps : List (ℕ × V)) → IsTrue (below_all nat_cmp k ps) → Each (λ p. k < p.0) ps
  higher_all k [] h = tt
  higher_all k (p ∷ ps) h =
      let parts = and_parts _ (below_all nat_cmp k ps) h in
      (below_from_cmp k p.0 parts.0, higher_all k ps parts.1)

  pub higher_than_first : (p : ℕ × V) (ps : List (ℕ × V)) → IsInOrder (p ∷ ps) → Each (λ q. p.0 < q.0) ps
  higher_than_first p ps h = higher_all p.0 ps (and_parts (below_all nat_cmp p.0 ps) (is_sorted nat_cmp ps) h).0

  all_higher : (k : ℕ) (ps : List (ℕ × V)) → Each (λ p. k < p.0) ps → IsTrue (below_all nat_cmp k ps)
  all_higher k [] h = refl
  all_higher k (p ∷ ps) h = rw (cmp_below k p.0 h.0) (all_higher k ps h.1)

  -- pairs in order, and behind them higher ones in order
  pub order_append : (ps qs : List (ℕ × V)) → IsInOrder ps → IsInOrder qs → Each (λ p. Each (λ q. p.0 < q.0) qs) ps → IsInOrder (ps ++ qs)
  order_append [] qs ordered next h = next
  order_append (p ∷ ps) qs ordered next h =
      and_from _ _ (all_higher p.0 (ps ++ qs) (Each-append (λ q. p.0 < q.0) ps qs (higher_than_first p ps ordered) h.0)) (order_append ps qs (rest_in_order p ps ordered) next h.1)

  pub order_drop : (n : ℕ) (ps : List (ℕ × V)) → IsInOrder ps → IsInOrder (drop n ps)
  order_drop zero ps h = h
  order_drop (suc n) [] h = h
  order_drop (suc n) (p ∷ ps) h = order_drop n ps (rest_in_order p ps h)

  below_take : (k n : ℕ) (ps : List (ℕ × V)) → IsTrue (below_all nat_cmp k ps) → IsTrue (below_all nat_cmp k (take n ps))
  below_take k n ps h = all_higher k (take n ps) (Each-take (λ p. k < p.0) n ps (higher_all k ps h))

  pub order_take : (n : ℕ) (ps : List (ℕ × V)) → IsInOrder ps → IsInOrder (take n ps)
  order_take zero ps h = refl
  order_take (suc n) [] h = refl
  order_take (suc n) (p ∷ ps) h =
      let parts = and_parts (below_all nat_cmp p.0 ps) (is_sorted nat_cmp ps) h in
      and_from _ _ (below_take p.0 n ps parts.0) (order_take n ps parts.1)

  -- what holds of each slot before a place
  pub take_each : (P : ℕ → Type 0) → (n : ℕ) (ps : List (ℕ × V)) → ((k : ℕ) → k < n → P (slot_at ps k)) → Each (λ p. P p.0) (take n ps)
  take_each P zero ps h = tt
  take_each P (suc n) [] h = tt
  take_each P (suc n) (p ∷ ps) h = (h 0 (omega arith), take_each P n ps (λ k l. h (suc k) (omega arith)))

  -- the pairs behind a place are higher than the one at it
  higher_behind : (at : ℕ) (ps : List (ℕ × V)) → IsInOrder ps → at < length ps → Each (λ p. slot_at ps at < p.0) (drop (suc at) ps)
  higher_behind at [] ordered h = absurd (omega arith)
  higher_behind zero (p ∷ ps) ordered h = higher_than_first p ps ordered
  higher_behind (suc at) (p ∷ ps) ordered h = higher_behind at ps (rest_in_order p ps ordered) (omega arith)

  higher_from : (key at : ℕ) (ps : List (ℕ × V)) → IsInOrder ps → (at < length ps → key < slot_at ps at) → Each (λ p. key < p.0) (drop at ps)
  higher_from key at [] ordered h = Each-drop (λ p. key < p.0) at [] tt
  higher_from key zero (p ∷ ps) ordered h =
      let first : key < p.0 = h (omega arith) in
      (first, Each-weaker (λ q. p.0 < q.0) (λ q. key < q.0) (λ q l. omega arith) ps (higher_than_first p ps ordered))
  higher_from key (suc at) (p ∷ ps) ordered h = higher_from key at ps (rest_in_order p ps ordered) (λ l. h (omega arith))

  -- before those that give way are lower pairs, behind them higher ones
  pub way_lower : (ps : List (ℕ × V)) (key from to : ℕ) → GivesWay ps key from to → Each (λ p. p.0 < key) (take from ps)
  way_lower ps key from to (inl h) = take_each (λ n. n < key) from ps h.0.lower
  way_lower ps key from to (inr h) = take_each (λ n. n < key) from ps h.0.lower

  pub way_higher : (ps : List (ℕ × V)) (key from to : ℕ) → IsInOrder ps → GivesWay ps key from to → Each (λ p. key < p.0) (drop to ps)
  way_higher ps key from to ordered (inl h) =
      let next : to ≡ suc from = omega (arith, h.1) in
      rw (next, ← h.0.same) (higher_behind from ps ordered h.0.in_range)
  way_higher ps key from to ordered (inr h) = rw h.1 (higher_from key from ps ordered h.0.higher)

  -- changes behind lower pairs
  pub with_all_behind : (front ps cs : List (ℕ × V)) → Each (λ c. Each (λ p. p.0 < c.0) front) cs → with_all (front ++ ps) cs ≡ front ++ with_all ps cs
  with_all_behind front ps [] h = refl
  with_all_behind front ps (c ∷ cs) h = ap (λ qs. with_all qs cs) (put_behind c.0 c.1 front ps h.0) ∙ with_all_behind front (put nat_cmp c.0 c.1 ps) cs h.1

  pub with_all_append : (ps cs more : List (ℕ × V)) → with_all ps (cs ++ more) ≡ with_all (with_all ps cs) more
  with_all_append ps [] more = refl
  with_all_append ps (c ∷ cs) more = with_all_append (put nat_cmp c.0 c.1 ps) cs more

  -- one change made, where the later ones are higher
  pub with_one : (ps : List (ℕ × V)) (from to : ℕ) (c : ℕ × V) (cs : List (ℕ × V)) → GivesWay ps c.0 from to → IsInOrder (c ∷ cs)
      → with_all ps (c ∷ cs) ≡ (take from ps ++ c ∷ []) ++ with_all (drop to ps) cs
  with_one ps from to c cs way rising =
      let front = take from ps ++ c ∷ [] in
      let lower : Each (λ p. p.0 ≤ c.0) front = Each-append (λ p. p.0 ≤ c.0) (take from ps) (c ∷ []) (Each-weaker (λ p. p.0 < c.0) (λ p. p.0 ≤ c.0) (λ p l. omega arith) (take from ps) (way_lower ps c.0 from to way)) (omega arith, tt) in
      let apart : Each (λ d. Each (λ p. p.0 < d.0) front) cs =
      Each-weaker (λ d. c.0 < d.0) (λ d. Each (λ p. p.0 < d.0) front) (λ d l. Each-weaker (λ p. p.0 ≤ c.0) (λ p. p.0 < d.0) (λ p k. omega arith) front lower) cs (higher_than_first c cs rising) in
      ap (λ qs. with_all qs cs) (put_way ps c.0 from to c.1 way ∙ sym (append_assoc (take from ps) (c ∷ []) (drop to ps))) ∙ with_all_behind front (drop to ps) cs apart
