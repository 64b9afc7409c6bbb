-- Groups of nets: the test tells them, each has a first net, and the first nets are in order.
use Rattle.std.proofs.Common.{◌≡◌, ◌<◌, ◌⊎◌, ℕ, List, [], ◌∷◌, Bool, true, false, length, map, refl, sym, ap, subst, ◌∙◌, inl, inr, arith, Option, Some, None, slice_get}
use Rattle.std.specs.Prelude.{cond, find, unwrap_or}
use Rattle.std.specs.List.{Contains, range_with_len}
use Rattle.std.specs.Option.{option_map_or}
use Rattle.std.proofs.lemmas.Bool.{eqb-true, eq-eqb, or_cases, or_left, or_right, false≢true}
use Rattle.std.proofs.lemmas.List.Folds.{find_at}
use Rattle.std.proofs.lemmas.Option.{slice_get_within}
use Rattle.netlist_schema.specs.Types.{End, Net}
use Rattle.flat_spec.specs.Paths.{own, on}
use Rattle.flat_spec.proofs.ChainLemmas.{Chain-same, Chain-append, Chain-sym}
use Rattle.flat_spec.proofs.ListLemmas.{Member, Member-append_left, Member-append_right, Member-append_cases, Member-map, Member-from_map, Ascends, Ascends-append, Ascends-map, Member-filter, Member-from_filter, Ascends-filter}
use Rattle.flat_spec.proofs.OccurrenceLemmas.{range_with_len-most, range_with_len-ascends, range_with_len-member}
use Rattle.flat_spec.proofs.PathLemmas.{Some-same}
use Rattle.flat_spec.proofs.ReachLemmas.{leads_through-chain, chain-leads_through}
use Rattle.flat_spec.proofs.RepresentativeLemmas.{found-first}
use Rattle.flat_spec.proofs.TestLemmas.{share_bit-true, share_bit-from}
use Rattle.ungroup_spec.proofs.PlaceLemmas.{ascends-before}
use Rattle.ungroup_spec.specs.Groups.{Site, Part, outer, inner, ends_of_net, ends_of_part, IsPart, AreLinked, AreOneGroup, are_linked, same_part, parts, is_grouped, head_of, is_head, heads, became}

-- the order in which nets are listed
abbrev pub PartBefore : Part → Part → Type 0
PartBefore (outer n) (outer k) = n < k
PartBefore (outer n) (inner k) = Unit {0}
PartBefore (inner m) (outer k) = ⊥
PartBefore (inner m) (inner k) = m < k

pub PartBefore-not_both : (x y : Part) → PartBefore x y → PartBefore y x → ⊥
PartBefore-not_both (outer n) (outer k) h l = omega (arith, h, l)
PartBefore-not_both (outer n) (inner k) h l = l
PartBefore-not_both (inner m) (outer k) h l = h
PartBefore-not_both (inner m) (inner k) h l = omega (arith, h, l)

PartBefore-total : (x y : Part) → PartBefore x y ⊎ ((x ≡ y) ⊎ PartBefore y x)
PartBefore-total (outer n) (outer k) = elim (split n k) [ inl less ↦ inl less | inr r ↦ elim r [ inl e ↦ inr (inl (ap outer e)) | inr more ↦ inr (inr more) ] ]
  where
    split : (a b : ℕ) → (a < b) ⊎ ((a ≡ b) ⊎ (b < a))
    split a b = grind arith
PartBefore-total (outer n) (inner k) = inl tt
PartBefore-total (inner m) (outer k) = inr (inr tt)
PartBefore-total (inner m) (inner k) = elim (split m k) [ inl less ↦ inl less | inr r ↦ elim r [ inl e ↦ inr (inl (ap inner e)) | inr more ↦ inr (inr more) ] ]
  where
    split : (a b : ℕ) → (a < b) ⊎ ((a ≡ b) ⊎ (b < a))
    split a b = grind arith

pub same_part-true : (x y : Part) → same_part x y ≡ true → x ≡ y
same_part-true (outer n) (outer k) e = ap outer (eqb-true n k e)
same_part-true (inner m) (inner k) e = ap inner (eqb-true m k e)
same_part-true (outer n) (inner k) e = absurd (false≢true e)
same_part-true (inner m) (outer k) e = absurd (false≢true e)

pub same_part-refl : (x : Part) → same_part x x ≡ true
same_part-refl (outer n) = eq-eqb n n refl
same_part-refl (inner m) = eq-eqb m m refl

pub same_part-from : (x y : Part) → x ≡ y → same_part x y ≡ true
same_part-from x y e = subst (λ v. same_part x v ≡ true) e (same_part-refl x)

-- the list of parts has each of them, in order
pub parts-member : (s : Site) (x : Part) → IsPart s x → Member (parts s) x
parts-member s (outer n) is =
    Member-append_left (map outer (range_with_len 0 (length s.around.nets))) (map inner (range_with_len 0 (length s.within.nets))) (outer n)
    (Member-map outer (range_with_len 0 (length s.around.nets)) n (range_with_len-member 0 (length s.around.nets) n (omega arith) (omega (arith, is))))
parts-member s (inner m) is =
    Member-append_right (map outer (range_with_len 0 (length s.around.nets))) (map inner (range_with_len 0 (length s.within.nets))) (inner m)
    (Member-map inner (range_with_len 0 (length s.within.nets)) m (range_with_len-member 0 (length s.within.nets) m (omega arith) (omega (arith, is))))

pub member-part : (s : Site) (x : Part) → Member (parts s) x → IsPart s x
member-part s x m =
    elim (Member-append_cases (map outer (range_with_len 0 (length s.around.nets))) (map inner (range_with_len 0 (length s.within.nets))) x m) [
      | inl left ↦
          let found = Member-from_map outer (range_with_len 0 (length s.around.nets)) x left in
          let most : found.0 < length s.around.nets = omega (arith, range_with_len-most 0 (length s.around.nets) found.0 found.1) in
          subst (λ v. IsPart s v) found.2 most
      | inr right ↦
          let found = Member-from_map inner (range_with_len 0 (length s.within.nets)) x right in
          let most : found.0 < length s.within.nets = omega (arith, range_with_len-most 0 (length s.within.nets) found.0 found.1) in
          subst (λ v. IsPart s v) found.2 most
    ]

pub parts-ascends : (s : Site) → Ascends PartBefore (parts s)
parts-ascends s =
    Ascends-append PartBefore (map outer (range_with_len 0 (length s.around.nets))) (map inner (range_with_len 0 (length s.within.nets)))
    (Ascends-map (λ j k. j < k) PartBefore outer (λ x y h. h) (range_with_len 0 (length s.around.nets)) (range_with_len-ascends 0 (length s.around.nets)))
    (Ascends-map (λ j k. j < k) PartBefore inner (λ x y h. h) (range_with_len 0 (length s.within.nets)) (range_with_len-ascends 0 (length s.within.nets)))
    (λ x y m k.
    let left = Member-from_map outer (range_with_len 0 (length s.around.nets)) x m in
    let right = Member-from_map inner (range_with_len 0 (length s.within.nets)) y k in
    subst (λ v. PartBefore v y) left.2 (subst (λ v. PartBefore (outer left.0) v) right.2 tt))

-- what has an end is a net
pub ends-net : (nets : List Net) (n : ℕ) (e : End) → Contains (ends_of_net nets n) e → n < length nets
ends-net nets n e c = there (slice_get nets n) refl c
  where
    there : (o : Option Net) → slice_get nets n ≡ o → Contains (option_map_or (λ (net : Net). net.ends) o []) e → n < length nets
    there None is c = absurd (omega arith)
    there (Some net) is c = slice_get_within nets n net is

pub linked-part : (s : Site) (x y : Part) → AreLinked s x y → IsPart s y
linked-part s (outer n) (inner m) l = ends-net s.within.nets m (own l.0) l.2
linked-part s (inner m) (outer n) l = ends-net s.around.nets n (on s.place l.0) l.1
linked-part s (outer n) (outer k) l = absurd l
linked-part s (inner m) (inner k) l = absurd l

linked-true : (s : Site) (x y : Part) → are_linked s x y ≡ true → AreLinked s x y
linked-true s (outer n) (inner m) e = share_bit-true s.place (ends_of_part s (outer n)) (ends_of_part s (inner m)) e
linked-true s (inner m) (outer n) e = share_bit-true s.place (ends_of_part s (outer n)) (ends_of_part s (inner m)) e
linked-true s (outer n) (outer k) e = absurd (false≢true e)
linked-true s (inner m) (inner k) e = absurd (false≢true e)

linked-from : (s : Site) (x y : Part) → AreLinked s x y → are_linked s x y ≡ true
linked-from s (outer n) (inner m) l = share_bit-from s.place (ends_of_part s (outer n)) (ends_of_part s (inner m)) l.0 l.1 l.2
linked-from s (inner m) (outer n) l = share_bit-from s.place (ends_of_part s (outer n)) (ends_of_part s (inner m)) l.0 l.1 l.2
linked-from s (outer n) (outer k) l = absurd l
linked-from s (inner m) (inner k) l = absurd l

linked-sym : (s : Site) (x y : Part) → AreLinked s x y → AreLinked s y x
linked-sym s (outer n) (inner m) l = l
linked-sym s (inner m) (outer n) l = l
linked-sym s (outer n) (outer k) l = absurd l
linked-sym s (inner m) (inner k) l = absurd l

pub group-sym : (s : Site) (x y : Part) → AreOneGroup s x y → AreOneGroup s y x
group-sym s x y k = Chain-sym (AreLinked s) (linked-sym s) x y k

pub group-trans : (s : Site) (x y z : Part) → AreOneGroup s x y → AreOneGroup s y z → AreOneGroup s x z
group-trans s x y z k l = Chain-append (AreLinked s) k l

-- the test tells
pub grouped-true : (s : Site) (x y : Part) → is_grouped s x y ≡ true → AreOneGroup s x y
unfolding is_grouped
grouped-true s x y e =
    elim (or_cases _ _ e) [
      | inl same ↦ subst (λ v. AreOneGroup s x v) (same_part-true x y same) (Chain-same x)
      | inr through ↦ leads_through-chain (AreLinked s) (are_linked s) (linked-true s) (parts s) x y through
    ]

pub grouped-from : (s : Site) (x y : Part) → AreOneGroup s x y → is_grouped s x y ≡ true
unfolding is_grouped
grouped-from s x y k =
    elim (chain-leads_through (AreLinked s) (are_linked s) (linked-from s) (parts s)
    (λ a b l. parts-member s b (linked-part s a b l)) x y k.0 k.1) [
      | inl same ↦ or_left _ _ (same_part-from x y same)
      | inr through ↦ or_right (same_part x y) _ through
    ]

pub grouped-refl : (s : Site) (x : Part) → is_grouped s x x ≡ true
grouped-refl s x = grouped-from s x x (Chain-same x)

-- the first net of a group
pub record IsHead (s : Site) (x h : Part) : Type 0 where
  pub grouped : AreOneGroup s x h
  pub part : IsPart s h
  pub least : (y : Part) → IsPart s y → AreOneGroup s x y → PartBefore y h → ⊥

find-part : (s : Site) (test : Part → Bool) (xs : List Part) (h : Part) → find test xs ≡ Some h → Member xs h
find-part s test [] h e = absurd (cc e)
find-part s test (x ∷ xs) h e = go (λ f. find-part s test xs h f) (test x) refl
  where
    go : (find test xs ≡ Some h → Member xs h) → (b : Bool) → test x ≡ b → (x ≡ h) ⊎ Member xs h
    go rest true is = let whole : ◌≡◌ {A = Option Part} (Some x) (Some h) = subst (λ b. cond b (Some x) (find test xs) ≡ Some h) is e in inl (cc whole)
    go rest false is = inr (rest (subst (λ b. cond b (Some x) (find test xs) ≡ Some h) is e))

pub head_of-head : (s : Site) (x : Part) → IsPart s x → IsHead s x (head_of s x)
head_of-head s x is =
    let found = found-first PartBefore (is_grouped s x) PartBefore-not_both (parts s) (parts-ascends s) x (parts-member s x is) (grouped-refl s x) in
    let same : head_of s x ≡ found.0 = ap (λ o. unwrap_or o x) found.1 in
    subst (λ v. IsHead s x v) (sym same)
    (record {
      grouped = grouped-true s x found.0 found.2;
      part = member-part s found.0 (find-part s (is_grouped s x) (parts s) found.0 found.1);
      least = λ y y_is k before. found.3 y (parts-member s y y_is) (grouped-from s x y k) before;
    })

IsHead-same : (s : Site) (x a b : Part) → IsHead s x a → IsHead s x b → a ≡ b
IsHead-same s x a b p q =
    elim (PartBefore-total a b) [
      | inl before ↦ absurd (q.least a p.part p.grouped before)
      | inr rest ↦ elim rest [ inl same ↦ same | inr after ↦ absurd (p.least b q.part q.grouped after) ]
    ]

-- nets of one group have one first net, and nets with one first net are of one group
pub one_head : (s : Site) (x y : Part) → IsPart s x → IsPart s y → AreOneGroup s x y → head_of s x ≡ head_of s y
one_head s x y x_is y_is k =
    let hx = head_of-head s x x_is in
    let hy = head_of-head s y y_is in
    IsHead-same s x (head_of s x) (head_of s y) hx (record {
      grouped = group-trans s x y (head_of s y) k hy.grouped;
      part = hy.part;
      least = λ z z_is l before. hy.least z z_is (group-trans s y x z (group-sym s x y k) l) before;
    })

pub one_group : (s : Site) (x y : Part) → IsPart s x → IsPart s y → head_of s x ≡ head_of s y → AreOneGroup s x y
one_group s x y x_is y_is e =
    group-trans s x (head_of s x) y (head_of-head s x x_is).grouped
    (subst (λ v. AreOneGroup s v y) (sym e) (group-sym s y (head_of s y) (head_of-head s y y_is).grouped))

pub head-own : (s : Site) (x : Part) → IsPart s x → head_of s (head_of s x) ≡ head_of s x
head-own s x is =
    let h = head_of-head s x is in
    one_head s (head_of s x) x h.part is (group-sym s x (head_of s x) h.grouped)

find-same : (h : Part) (xs : List Part) → Member xs h → find (same_part h) xs ≡ Some h
find-same h [] m = absurd m
find-same h (x ∷ xs) m = go (λ k. find-same h xs k) (same_part h x) refl
  where
    go : (Member xs h → find (same_part h) xs ≡ Some h) → (b : Bool) → same_part h x ≡ b → cond b (Some x) (find (same_part h) xs) ≡ Some h
    go further true is = ap (λ v. Some v) (sym (same_part-true h x is))
    go further false is = elim m [
      | inl same ↦ absurd (false≢true (sym is ∙ same_part-from h x (sym same)))
      | inr rest ↦ further rest
    ]

-- ---- the first nets

pub heads-ascend : (s : Site) → Ascends PartBefore (heads s)
heads-ascend s = Ascends-filter PartBefore (is_head s) (parts s) (parts-ascends s)

pub heads-member : (s : Site) (x : Part) → IsPart s x → Member (heads s) (head_of s x)
heads-member s x is =
    Member-filter (is_head s) (parts s) (head_of s x) (parts-member s (head_of s x) (head_of-head s x is).part)
    (same_part-from (head_of s (head_of s x)) (head_of s x) (head-own s x is))

pub head-is : (s : Site) (h : Part) → Member (heads s) h → IsPart s h × (head_of s h ≡ h)
head-is s h m =
    let found = Member-from_filter (is_head s) (parts s) h m in
    (member-part s h found.0, same_part-true (head_of s h) h found.1)

-- the first net of its group stands where it becomes
pub became-at : (s : Site) (x : Part) → IsPart s x → slice_get (heads s) (became s x) ≡ Some (head_of s x)
became-at s x is =
    sym (find_at (same_part (head_of s x)) (heads s)) ∙ find-same (head_of s x) (heads s) (heads-member s x is)

-- a net becomes the one at a place exactly where the first net there is that of its group
pub became-only : (s : Site) (x : Part) (k : ℕ) → IsPart s x → slice_get (heads s) k ≡ Some (head_of s x) → k ≡ became s x
became-only s x k is e =
    elim (split k (became s x)) [
      | inl less ↦ absurd (twice (ascends-before PartBefore (heads s) k (became s x) (head_of s x) (head_of s x) (heads-ascend s) e (became-at s x is) less))
      | inr rest ↦ elim rest [
        | inl same ↦ same
        | inr more ↦ absurd (twice (ascends-before PartBefore (heads s) (became s x) k (head_of s x) (head_of s x) (heads-ascend s) (became-at s x is) e more))
      ]
    ]
  where
    split : (a b : ℕ) → (a < b) ⊎ ((a ≡ b) ⊎ (b < a))
    split a b = grind arith

    twice : PartBefore (head_of s x) (head_of s x) → ⊥
    twice before = PartBefore-not_both (head_of s x) (head_of s x) before before

pub became-same : (s : Site) (x y : Part) → IsPart s x → IsPart s y → AreOneGroup s x y → became s x ≡ became s y
became-same s x y x_is y_is k =
    became-only s y (became s x) y_is (became-at s x x_is ∙ ap (λ v. Some v) (one_head s x y x_is y_is k))

pub became-group : (s : Site) (x y : Part) → IsPart s x → IsPart s y → became s x ≡ became s y → AreOneGroup s x y
became-group s x y x_is y_is e =
    one_group s x y x_is y_is
    (Some-same (slice_get (heads s) (became s y)) (subst (λ k. slice_get (heads s) k ≡ Some (head_of s x)) e (became-at s x x_is)) (became-at s y y_is))

pub became-before : (s : Site) (x y : Part) → IsPart s x → IsPart s y → became s x < became s y → PartBefore (head_of s x) (head_of s y)
became-before s x y x_is y_is less =
    ascends-before PartBefore (heads s) (became s x) (became s y) (head_of s x) (head_of s y) (heads-ascend s) (became-at s x x_is) (became-at s y y_is) less
