-- The first nets of all groups, with the ends of their groups.
use Rattle.std.proofs.Common.{◌≡◌, ◌<◌, ◌+◌, ◌⊎◌, ℕ, zero, suc, List, [], ◌∷◌, ◌++◌, Bool, true, false, length, get_or, map, filter, refl, sym, ap, subst, ◌∙◌, inl, inr, arith, Some, slice_get, eqb-true, eq-eqb, length-append}
use Rattle.std.specs.Prelude.{◌==◌, cond}
use Rattle.std.specs.List.{enumerate_from, flat_map, range_with_len}
use Rattle.std.proofs.lemmas.Bool.{false≢true}
use Rattle.netlist_schema.specs.Types.{End, Net}
use Rattle.netlist_schema.proofs.Lists.{same_test}
use Rattle.flat_spec.proofs.ListLemmas.{Member, filter_same}
use Rattle.ungroup_spec.specs.Dissolved.{ends_after, ends_up, joined}
use Rattle.ungroup_spec.specs.Groups.{Site, Part, outer, inner, IsPart, head_of, is_grouped, is_head, parts}
use Rattle.ungroup_spec.proofs.GroupLemmas.{grouped-from, grouped-true, head_of-head, member-part, one_group, one_head, same_part-from, same_part-true}
use Rattle.ungroup_spec.proofs.PlaceLemmas.{slice_get-member}
use Rattle.ungroup_plans.specs.Grouped.{AreGrouped, first_nets, is_first, with_list}
use Rattle.ungroup_plans.specs.Heads.{AreHeads, number}
use Rattle.ungroup_plans.specs.Lists.{AreGathered, gathered}
use Rattle.ungroup_plans.specs.declared.groups.Grouped.{Grouped}
use Rattle.ungroup_plans.proofs.HeadLemmas.{number_same}
use Rattle.ungroup_plans.proofs.ListsLemmas.{gathered_hit, gathered_miss}

map_filter_same : {A B : Type 0} (f g : A → B) (t u : A → Bool) (xs : List A) → ((x : A) → Member xs x → t x ≡ u x) → ((x : A) → Member xs x → u x ≡ true → f x ≡ g x)
    → map f (filter t xs) ≡ map g (filter u xs)
map_filter_same f g t u [] same values = refl
map_filter_same {A} {B} f g t u (x ∷ xs) same values =
    ap (λ b. map f (cond b (x ∷ filter t xs) (filter t xs))) (same x (inl refl))
    ∙ at (u x) refl (map_filter_same f g t u xs (λ y m. same y (inr m)) (λ y m is. values y (inr m) is))
  where
    at : (b : Bool) → u x ≡ b → map f (filter t xs) ≡ map g (filter u xs) → map f (cond b (x ∷ filter t xs) (filter t xs)) ≡ map g (cond b (x ∷ filter u xs) (filter u xs))
    at true is rest = λ i. values x (inl refl) is i ∷ rest i
    at false is rest = rest

-- ---- places of nets among all

range_at : {B : Type 0} (f : ℕ → B) (a len k : ℕ) (y : B) → slice_get (map f (range_with_len a len)) k ≡ Some y → y ≡ f (a + k)
range_at f a zero k y at = absurd (cc at)
range_at f a (suc len) zero y at = let same : f a ≡ y = cc at in sym same ∙ (let e : a ≡ a + 0 = omega arith in ap f e)
range_at f a (suc len) (suc k) y at = range_at f (a + 1) len k y at ∙ (let e : a + 1 + k ≡ a + suc k = omega arith in ap f e)

append_at : {B : Type 0} (xs ys : List B) (k : ℕ) (y : B) → slice_get (xs ++ ys) k ≡ Some y
    → (slice_get xs k ≡ Some y) ⊎ ((j : ℕ) × (k ≡ length xs + j) × (slice_get ys j ≡ Some y))
append_at [] ys k y at = inr (k, omega arith, at)
append_at (x ∷ xs) ys zero y at = inl at
append_at (x ∷ xs) ys (suc k) y at = elim (append_at xs ys k y at) [
  | inl left ↦ inl left
  | inr right ↦ inr (right.0, omega (arith, right.1), right.2)
]

length_range : {B : Type 0} (f : ℕ → B) (a len : ℕ) → length (map f (range_with_len a len)) ≡ len
length_range f a zero = refl
length_range f a (suc len) = ap suc (length_range f (a + 1) len)

number_at : (s : Site) (k : ℕ) (x : Part) → slice_get (parts s) k ≡ Some x → number s x ≡ k
number_at s k x at =
    let a = length s.around.nets in
    let c = length s.within.nets in
    elim (append_at (map outer (range_with_len 0 a)) (map inner (range_with_len 0 c)) k x at) [
      | inl left ↦ let is = range_at outer 0 a k x left in ap (number s) is ∙ (omega arith)
      | inr right ↦
          let is = range_at inner 0 c right.0 x right.2 in
          let long = length_range outer 0 a in
          let e : a + (0 + right.0) ≡ k = omega (arith, right.1, long) in
          ap (number s) is ∙ e
    ]

-- ---- what is gathered

label_gathered : (up : Part → List End) (label : Part → ℕ) (h : ℕ) (xs : List Part) (ns : List ℕ) → length ns ≡ length xs
    → ((k : ℕ) (x : Part) → slice_get xs k ≡ Some x → get_or ns k 0 ≡ label x) → gathered h ns (map up xs) ≡ flat_map up (filter (λ x. label x == h) xs)
label_gathered up label h [] [] long same = refl
label_gathered up label h [] (n ∷ ns) long same = absurd (omega (arith, long))
label_gathered up label h (x ∷ xs) [] long same = absurd (omega (arith, long))
label_gathered up label h (x ∷ xs) (n ∷ ns) long same =
    let shorter : length ns ≡ length xs = omega (arith, long) in
    let rest = label_gathered up label h xs ns shorter (λ k y at. same (suc k) y at) in
    let here : n ≡ label x = same 0 x refl in
    at (label x == h) refl here rest
  where
    at : (b : Bool) → (label x == h) ≡ b → n ≡ label x → gathered h ns (map up xs) ≡ flat_map up (filter (λ x. label x == h) xs)
        → gathered h (n ∷ ns) (up x ∷ map up xs) ≡ flat_map up (cond b (x ∷ filter (λ x. label x == h) xs) (filter (λ x. label x == h) xs))
    at true is here rest = gathered_hit h n ns (up x) (map up xs) (here ∙ eqb-true (label x) h is) ∙ ap (λ v. up x ++ v) rest
    at false is here rest =
        gathered_miss h n ns (up x) (map up xs) (λ same. false≢true (sym is ∙ eq-eqb (label x) h (sym here ∙ same))) ∙ rest

module _ (s : Site) (heads : List ℕ) (are : AreHeads s heads) where
  label : Part → ℕ
  label x = number s (head_of s x)

  same_group : (y : Part) → IsPart s y → head_of s y ≡ y → (x : Part) → Member (parts s) x → (number s (head_of s x) == number s y) ≡ is_grouped s y x
  same_group y y_is own x m =
      let x_is = member-part s x m in
      let head = head_of-head s x x_is in
      same_test (number s (head_of s x) == number s y) (is_grouped s y x)
      (λ t.
      let one : head_of s x ≡ y = number_same s (head_of s x) y head.part y_is (eqb-true _ _ t) in
      grouped-from s y x (one_group s y x y_is x_is (own ∙ sym one)))
      (λ t. eq-eqb _ _ (ap (number s) (sym (one_head s y x y_is x_is (grouped-true s y x t)) ∙ own)))

  -- for a first net the ends of its group are gathered
  group_gathered : (y : Part) → IsPart s y → head_of s y ≡ y → gathered (number s y) heads (map (ends_up s) (parts s)) ≡ ends_after s y
  group_gathered y y_is own =
      label_gathered (ends_up s) (λ x. number s (head_of s x)) (number s y) (parts s) heads long each
      ∙ ap (flat_map (ends_up s)) (filter_same (λ x. number s (head_of s x) == number s y) (is_grouped s y) (parts s) (same_group y y_is own))
    where
      long : length heads ≡ length (parts s)
      long =
          let a = length s.around.nets in
          let c = length s.within.nets in
          are.long ∙ (λ t. sym (length_range outer 0 a) t + sym (length_range inner 0 c) t) ∙ sym (length-append (map outer (range_with_len 0 a)) (map inner (range_with_len 0 c)))

      each : (k : ℕ) (x : Part) → slice_get (parts s) k ≡ Some x → get_or heads k 0 ≡ number s (head_of s x)
      each k x at =
          ap (λ v. get_or heads v 0) (sym (number_at s k x at))
          ∙ are.each x (member-part s x (slice_get-member (parts s) k x at))

  first_is_head : (x : Part) → IsPart s x → (get_or heads (number s x) 0 == number s x) ≡ is_head s x
  first_is_head x x_is =
      let head = head_of-head s x x_is in
      ap (λ v. v == number s x) (are.each x x_is)
      ∙ same_test (number s (head_of s x) == number s x) (is_head s x)
      (λ t. same_part-from (head_of s x) x (number_same s (head_of s x) x head.part x_is (eqb-true _ _ t)))
      (λ t. eq-eqb _ _ (ap (number s) (same_part-true (head_of s x) x t)))

  within_range : (a : ℕ) (nets : List Net) (p : ℕ × Net) → Member (enumerate_from a nets) p → p.0 < a + length nets
  within_range a [] p m = absurd m
  within_range a (net ∷ nets) p m = elim m [
    | inl same ↦ let e : a ≡ p.0 = ap (λ (q : ℕ × Net). q.0) same in omega (arith, e)
    | inr rest ↦ omega (arith, within_range (a + 1) nets p rest)
  ]

  -- the nets whose numbers stand for themselves are the first nets
  first_are : (lists : List (List End)) → AreGathered heads (map (ends_up s) (parts s)) lists → (part : ℕ → Part) (behind : ℕ) (nets : List Net)
      → ((n : ℕ) → n < length nets → IsPart s (part n)) → ((n : ℕ) → behind + n ≡ number s (part n))
      → ((x : Part) → IsPart s x → number s x < length heads)
      → first_nets behind heads lists nets ≡ map (joined s part) (filter (λ p. is_head s (part p.0)) (enumerate_from 0 nets))
  first_are lists made part behind nets is_part numbers inside =
      map_filter_same (with_list behind lists) (joined s part) (is_first behind heads) (λ p. is_head s (part p.0)) (enumerate_from 0 nets)
      (λ p m.
      let e = numbers p.0 in
      ap (λ v. get_or heads v 0 == v) e ∙ first_is_head (part p.0) (is_part p.0 (omega (arith, within_range 0 nets p m))))
      (λ p m is.
      let x = part p.0 in
      let x_is = is_part p.0 (omega (arith, within_range 0 nets p m)) in
      let ends : get_or lists (behind + p.0) [] ≡ ends_after s x =
      ap (λ v. get_or lists v []) (numbers p.0) ∙ made.each (number s x) (inside x x_is) ∙ group_gathered x x_is (same_part-true (head_of s x) x is) in
      λ t. record p.1 { ends = ends t })

-- same_test kinds of first nets
pub grouped_are : (s : Site) (heads : List ℕ) (ends lists : List (List End)) (made : Grouped) → AreHeads s heads → ends ≡ map (ends_up s) (parts s) → AreGathered heads ends lists
    → made.kept ≡ first_nets 0 heads lists s.around.nets → made.loose ≡ first_nets (length s.around.nets) heads lists s.within.nets → AreGrouped s made
grouped_are s heads ends lists made are ends_is gathered kept_is loose_is =
    let here : AreGathered heads (map (ends_up s) (parts s)) lists = subst (λ v. AreGathered heads v lists) ends_is gathered in
    record {
      stay = kept_is ∙ first_are s heads are lists here outer 0 s.around.nets (λ n h. h) (λ n. omega arith) inside;
      come = loose_is ∙ first_are s heads are lists here inner (length s.around.nets) s.within.nets (λ n h. h) (λ n. refl) inside;
    }
  where
    inside : (x : Part) → IsPart s x → number s x < length heads
    inside (outer n) h = omega (arith, h, are.long)
    inside (inner m) h = omega (arith, h, are.long)
