-- Names that are the same: what is noted of one is noted of the other, and what one more name changes.
use Rattle.std.proofs.Common.{nat_eq, eq-eqb, eqb-true, ◌≡◌, ◌+◌, ◌<◌, ℕ, suc, List, [], ◌∷◌, ◌++◌, length, Bool, true, false, ◌||◌, not, cond, refl, sym, ap, ◌∙◌, subst, Option, Some, None, slice_get, true≢false, arith}
use Rattle.std.specs.Prelude.{IfSome}
use Rattle.std.specs.List.{list_any}
use Rattle.indexmap.specs.IndexMap.{get}
use Rattle.netlist_schema.specs.Marks.{hash_of}
use Rattle.netlist_schema.proofs.Lists.{get_behind, get_front, same_test}
use Rattle.netlist_schema.proofs.MarkLemmas as marks
use Rattle.edif_spec.specs.Keyword.{same}
use Rattle.edif_names.specs.declared.folded.Folded.{Folded}
use Rattle.edif_names.specs.declared.folded.Spot.{Spot}
use Rattle.edif_names.specs.Folded.{AreSpotsOf, Numbered, noted, noted_after, noted_at, noted_by, one_more}
use Rattle.edif_spec.proofs.SameLemmas.{same_says, says_same}

-- two names that are the same are the same as the same names
pub same_as : (a b : List ℕ) → same a b ≡ true → (x : List ℕ) → same a x ≡ same b x
same_as a b h x = let e = same_says a b h in
    same_test (same a x) (same b x)
    (λ f. says_same b x (sym e ∙ same_says a x f))
    (λ f. says_same a x (e ∙ same_says b x f))

-- so they have one hash
pub same_hash : (a b : List ℕ) → same a b ≡ true → hash_of a ≡ hash_of b
same_hash a b h = marks.same_hash a b (same_says a b h)

any_push : (q : List ℕ) (ns : List Numbered) (n : Numbered) → list_any (λ m. same q m.name) (ns ++ n ∷ []) ≡ (list_any (λ m. same q m.name) ns || same q n.name)
any_push q [] n = by (same q n.name)
  where
    by : (b : Bool) → (b || false) ≡ (false || b)
    by true = refl
    by false = refl
any_push q (m ∷ ns) n = ap (λ v. same q m.name || v) (any_push q ns n) ∙ by (same q m.name) (list_any (λ m. same q m.name) ns) (same q n.name)
  where
    by : (a b c : Bool) → (a || (b || c)) ≡ ((a || b) || c)
    by true b c = refl
    by false b c = refl

-- one more name at the end
pub noted_push : (q : List ℕ) (ns : List Numbered) (n : Numbered) → noted q (ns ++ n ∷ []) ≡ noted_after q n.name n.id (noted q ns)
noted_push q [] n = by (same q n.name)
  where
    by : (b : Bool) → cond b (Some (record { id = n.id; is_only = true })) None ≡ cond b (one_more n.id None) None
    by true = refl
    by false = refl
noted_push q (m ∷ ns) n = by (same q m.name) (same q n.name) (list_any (λ m. same q m.name) ns) (list_any (λ m. same q m.name) (ns ++ n ∷ [])) (any_push q ns n) (noted_push q ns n)
  where
    by : (a b c d : Bool) → d ≡ (c || b) → noted q (ns ++ n ∷ []) ≡ cond b (one_more n.id (noted q ns)) (noted q ns)
        → cond a (Some (record { id = m.id; is_only = not d })) (noted q (ns ++ n ∷ [])) ≡ cond b (one_more n.id (cond a (Some (record { id = m.id; is_only = not c })) (noted q ns))) (cond a (Some (record { id = m.id; is_only = not c })) (noted q ns))
    by true true true d e h = ap (λ v. Some (record { id = m.id; is_only = not v })) e
    by true true false d e h = ap (λ v. Some (record { id = m.id; is_only = not v })) e
    by true false true d e h = ap (λ v. Some (record { id = m.id; is_only = not v })) e
    by true false false d e h = ap (λ v. Some (record { id = m.id; is_only = not v })) e
    by false b c d e h = h

longer : {A : Type 0} (xs : List A) (x : A) → length (xs ++ x ∷ []) ≡ suc (length xs)
longer [] x = refl
longer (y ∷ xs) x = ap (λ n. suc n) (longer xs x)

-- one more name that is not the same changes nothing
stays : (q : List ℕ) (ns : List Numbered) (n : Numbered) → same q n.name ≡ false → noted q (ns ++ n ∷ []) ≡ noted q ns
stays q ns n h = noted_push q ns n ∙ ap (λ b. cond b (one_more n.id (noted q ns)) (noted q ns)) h

-- what the spot of another hash tells stays
apart : (q : List ℕ) (ns : List Numbered) (n : Numbered) (o : Option Spot) → same q n.name ≡ false → IfSome o (λ s. s.first < length ns) → noted_by q ns o ≡ noted q ns
    → noted_by q (ns ++ n ∷ []) o ≡ noted q (ns ++ n ∷ [])
apart q ns n None h within e = e ∙ sym (stays q ns n h)
apart q ns n (Some s) h within e = by s.is_alone e
  where
    by : (b : Bool) → cond b (noted_at q (slice_get ns s.first)) (noted q ns) ≡ noted q ns → cond b (noted_at q (slice_get (ns ++ n ∷ []) s.first)) (noted q (ns ++ n ∷ [])) ≡ noted q (ns ++ n ∷ [])
    by true e = ap (noted_at q) (get_front ns (n ∷ []) s.first within) ∙ e ∙ sym (stays q ns n h)
    by false e = refl

-- the spot of the first name of its hash
pub alone : (q : List ℕ) (ns : List Numbered) (n : Numbered) (place : ℕ) → length ns ≡ place → noted q ns ≡ None
    → noted_by q (ns ++ n ∷ []) (Some (record { first = place; is_alone = true })) ≡ noted q (ns ++ n ∷ [])
alone q ns n place p e =
    let here : slice_get (ns ++ n ∷ []) place ≡ Some n = ap (slice_get (ns ++ n ∷ [])) (let z : place ≡ length ns + 0 = omega (arith, p) in z) ∙ get_behind ns (n ∷ []) 0 in
    ap (noted_at q) here ∙ sym (noted_push q ns n ∙ ap (λ o. noted_after q n.name n.id o) e)

differs : (q : List ℕ) (n : Numbered) (h : ℕ) → h ≡ hash_of n.name → nat_eq h (hash_of q) ≡ false → same q n.name ≡ false
differs q n h is m = by (same q n.name) refl
  where
    by : (b : Bool) → same q n.name ≡ b → b ≡ false
    by true e = absurd (true≢false (sym (eq-eqb h (hash_of q) (is ∙ sym (same_hash q n.name e))) ∙ m))
    by false e = refl

-- one more name at the end, by the spot that its hash has then
added : (ns : List Numbered) (n : Numbered) (f g : Folded) (h : ℕ) (w : Spot) → h ≡ hash_of n.name
    → ((k : ℕ) → get nat_eq g.spots k ≡ cond (nat_eq h k) (Some w) (get nat_eq f.spots k))
    → ((q : List ℕ) → noted_by q ns (get nat_eq f.spots h) ≡ noted q ns → noted_by q (ns ++ n ∷ []) (Some w) ≡ noted q (ns ++ n ∷ []))
    → w.first < suc (length ns)
    → AreSpotsOf ns f → AreSpotsOf (ns ++ n ∷ []) g
added ns n f g h w is table here first old = (told, within)
  where
    told : (q : List ℕ) → noted_by q (ns ++ n ∷ []) (get nat_eq g.spots (hash_of q)) ≡ noted q (ns ++ n ∷ [])
    told q = by (nat_eq h (hash_of q)) refl
      where
        by : (b : Bool) → nat_eq h (hash_of q) ≡ b → noted_by q (ns ++ n ∷ []) (get nat_eq g.spots (hash_of q)) ≡ noted q (ns ++ n ∷ [])
        by true e = ap (noted_by q (ns ++ n ∷ [])) (table (hash_of q) ∙ ap (λ v. cond v (Some w) (get nat_eq f.spots (hash_of q))) e)
            ∙ here q (ap (λ k. noted_by q ns (get nat_eq f.spots k)) (eqb-true h (hash_of q) e) ∙ old.0 q)
        by false e = ap (noted_by q (ns ++ n ∷ [])) (table (hash_of q) ∙ ap (λ v. cond v (Some w) (get nat_eq f.spots (hash_of q))) e)
            ∙ apart q ns n (get nat_eq f.spots (hash_of q)) (differs q n h is e) (old.1 (hash_of q)) (old.0 q)

    wider : (o : Option Spot) → IfSome o (λ s. s.first < length ns) → IfSome o (λ s. s.first < length (ns ++ n ∷ []))
    wider None l = tt
    wider (Some s) l = let e = longer ns n in omega (arith, l, e)

    within : (k : ℕ) → IfSome (get nat_eq g.spots k) (λ s. s.first < length (ns ++ n ∷ []))
    within k = subst (λ o. IfSome o (λ s. s.first < length (ns ++ n ∷ []))) (sym (table k)) (by (nat_eq h k))
      where
        by : (b : Bool) → IfSome (cond b (Some w) (get nat_eq f.spots k)) (λ s. s.first < length (ns ++ n ∷ []))
        by true = let e = longer ns n in omega (arith, first, e)
        by false = wider (get nat_eq f.spots k) (old.1 k)

-- the first name of its hash
pub added_alone : (ns : List Numbered) (n : Numbered) (f g : Folded) (h place : ℕ) → h ≡ hash_of n.name → length ns ≡ place → get nat_eq f.spots h ≡ None
    → ((k : ℕ) → get nat_eq g.spots k ≡ cond (nat_eq h k) (Some (record { first = place; is_alone = true })) (get nat_eq f.spots k))
    → AreSpotsOf ns f → AreSpotsOf (ns ++ n ∷ []) g
added_alone ns n f g h place is p none table old = added ns n f g h (record { first = place; is_alone = true }) is table
    (λ q e. alone q ns n place p (sym (sym (ap (noted_by q ns) none) ∙ e)))
    (omega (arith, p)) old

-- another name of a hash
pub added_beside : (ns : List Numbered) (n : Numbered) (f g : Folded) (h : ℕ) (s : Spot) → h ≡ hash_of n.name → get nat_eq f.spots h ≡ Some s
    → ((k : ℕ) → get nat_eq g.spots k ≡ cond (nat_eq h k) (Some (record { first = s.first; is_alone = false })) (get nat_eq f.spots k))
    → AreSpotsOf ns f → AreSpotsOf (ns ++ n ∷ []) g
added_beside ns n f g h s is there table old = added ns n f g h (record { first = s.first; is_alone = false }) is table
    (λ q e. refl)
    (let l : s.first < length ns = subst (λ o. IfSome o (λ v. v.first < length ns)) there (old.1 h) in omega (arith, l)) old

-- the same spots tell the same
pub same_spots : (ns : List Numbered) (f g : Folded) → ((k : ℕ) → get nat_eq g.spots k ≡ get nat_eq f.spots k) → AreSpotsOf ns f → AreSpotsOf ns g
same_spots ns f g e old = (
  λ q. ap (noted_by q ns) (e (hash_of q)) ∙ old.0 q,
  λ k. subst (λ o. IfSome o (λ s. s.first < length ns)) (sym (e k)) (old.1 k),
)
