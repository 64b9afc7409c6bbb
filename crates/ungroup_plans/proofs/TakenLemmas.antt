-- Names in a set of keys, and the first name that is free.
use Rattle.std.proofs.Common.{◌≡◌, ◌≤◌, ◌<◌, ◌+◌, ◌^◌, ◌⊎◌, ◌++◌, ℕ, zero, suc, List, [], ◌∷◌, cond, map, length, refl, sym, ap, subst, ◌∙◌, inl, inr, arith, Some, Bool, true, false, not}
use Rattle.std.specs.Prelude.{◌||◌, codes, find, unwrap_or, decimal}
use Rattle.std.specs.BTreeMap.{BTreeMap, Updates, get, is_at}
use Rattle.std.specs.Map.{lookup}
use Rattle.std.specs.BTreeSet.{insert_key}
use Rattle.std.specs.Cmp.Lexicographic.{slice_cmp, texts_ties}
use Rattle.std.specs.List.{list_any, range_with_len}
use Rattle.std.specs.Ordering.{nat_cmp, is_eq, match_ordering}
use Rattle.std.specs.declared.cmp.Ordering.{Ordering}
use Rattle.std.specs.declared.cmp.Ordering.TheVariants.{Less, Equal, Greater}
use Rattle.std.proofs.lemmas.Bool.{true≢false, false≢true, cond-true, cond-false, not-true, not-false, or_left, or_right}
use Rattle.std.proofs.lemmas.Fmt.{decimal_is_IsNumeral}
use Rattle.edit_rules_spec.specs.Find.{is_name, is_same}
use Rattle.edit_rules_spec.proofs.Numbers.{lower_numbered}
use Rattle.edit_rules_spec.proofs.Refusals.{is_name-refl, same_name}
use Rattle.flat_spec.proofs.ListLemmas.{Member, Member-from_map}
use Rattle.flat_spec.proofs.OccurrenceLemmas.{range_with_len-most}
use Rattle.netlist_schema.specs.Ident.{IsIdentifier, is_identifier_byte}
use Rattle.ungroup_spec.specs.Names.{is_taken, numbered, free_name}
use Rattle.ungroup_spec.proofs.FreshLemmas.{free_name-is, wanted_identifier, All-member, digits_pass}
use Rattle.ungroup_plans.specs.Taken.{AreKept, AreUsed, AreUsedUp, IsAdded, IsMadeFree, IsOf, IsTold, has, lower}

-- ---- the set

-- two lists of bytes that compare equal are one name
tied : (a b : List ℕ) → is_eq (slice_cmp nat_cmp a b) ≡ is_name a b
tied a b = sym (texts_ties a b)

module _ {K : Type 0} (f : K → List ℕ) where
  abbrev cmp_by : K → K → Ordering
  cmp_by x y = slice_cmp nat_cmp (f x) (f y)

  -- whether a key is there
  pub has_key : (k : K) (ks : List K) → list_any (is_at (cmp_by k)) ks ≡ list_any (is_name (f k)) (map f ks)
  has_key k [] = refl
  has_key k (x ∷ xs) = λ t. tied (f k) (f x) t || has_key k xs t

  -- with one key more
  pub one_key_more : (q : List ℕ) (k : K) (ks : List K) → list_any (is_name q) (map f (insert_key cmp_by ks k)) ≡ (is_name q (f k) || list_any (is_name q) (map f ks))
  one_key_more q k [] = refl
  one_key_more q k (x ∷ xs) = at (cmp_by k x) refl (one_key_more q k xs)
    where
      swap : (a b c : Bool) → (a || (b || c)) ≡ (b || (a || c))
      swap true true c = refl
      swap true false c = refl
      swap false b c = refl

      twice : (a b c : Bool) → a ≡ b → (b || c) ≡ (a || (b || c))
      twice true true c e = refl
      twice true false c e = absurd (true≢false e)
      twice false b c e = refl

      at : (o : Ordering) → cmp_by k x ≡ o → list_any (is_name q) (map f (insert_key cmp_by xs k)) ≡ (is_name q (f k) || list_any (is_name q) (map f xs))
          → list_any (is_name q) (map f (match_ordering o (k ∷ x ∷ xs) (x ∷ xs) (x ∷ insert_key cmp_by xs k))) ≡ (is_name q (f k) || (is_name q (f x) || list_any (is_name q) (map f xs)))
      at Less is rec = refl
      at Equal is rec =
          let one : f k ≡ f x = same_name (f k) (f x) (sym (tied (f k) (f x)) ∙ ap is_eq is) in
          twice (is_name q (f k)) (is_name q (f x)) (list_any (is_name q) (map f xs)) (ap (is_name q) one)
      at Greater is rec =
          ap (λ b. is_name q (f x) || b) rec
          ∙ swap (is_name q (f x)) (is_name q (f k)) (list_any (is_name q) (map f xs))

-- whether a name is taken
taken_lower : (names : List (List ℕ)) (name : List ℕ) → is_taken names name ≡ list_any (is_name (lower name)) (map lower names)
taken_lower [] name = refl
taken_lower (x ∷ xs) name = ap (λ b. is_same name x || b) (taken_lower xs name)

-- a name is taken, or found taken
pub told : {K : Type 0} (f : K → List ℕ) (ks new : List K) (k : K) (name : List ℕ) (free : Bool) → f k ≡ lower name
    → free ≡ not (list_any (is_at (λ y. slice_cmp nat_cmp (f k) (f y))) ks) → new ≡ insert_key (λ x y. slice_cmp nat_cmp (f x) (f y)) ks k
    → IsTold (map f ks) name (map f new) free
told f ks new k name free is free_is new_is names of = (
  free_is ∙ ap not (has_key f k ks ∙ ap (λ v. list_any (is_name v) (map f ks)) is ∙ of (lower name) ∙ sym (taken_lower names name)),
  λ q. ap (λ v. list_any (is_name q) (map f v)) new_is ∙ one_key_more f q k ks
      ∙ (λ t. is_name q (is t) || of q t),
)

-- a name that was taken before changes nothing
pub still_of : (set : List (List ℕ)) (names : List (List ℕ)) (name : List ℕ) → is_taken names name ≡ true → IsOf set (name ∷ names) → IsOf set names
still_of set names name taken of q = of q ∙ at (is_name q (lower name)) refl
  where
    at : (b : Bool) → is_name q (lower name) ≡ b → (b || list_any (is_name q) (map lower names)) ≡ list_any (is_name q) (map lower names)
    at true is =
        let one : q ≡ lower name = same_name q (lower name) is in
        sym (ap (λ v. list_any (is_name v) (map lower names)) one ∙ sym (taken_lower names name) ∙ taken)
    at false is = refl

-- ---- the first name that is free

abbrev pub candidate : List ℕ → ℕ → List ℕ
candidate name zero = name
candidate name (suc n) = numbered name (suc n)

with_number : (name : List ℕ) (k : ℕ) → 1 ≤ k → candidate name k ≡ numbered name k
with_number name zero h = absurd (omega arith)
with_number name (suc k) h = refl

find_first : (test : List ℕ → Bool) (f : ℕ → List ℕ) (len a n : ℕ) → a ≤ n → n < a + len → ((k : ℕ) → a ≤ k → k < n → test (f k) ≡ false) → test (f n) ≡ true
    → find test (map f (range_with_len a len)) ≡ Some (f n)
find_first test f zero a n low high fails passes = absurd (omega arith)
find_first test f (suc len) a n low high fails passes =
    split (test (f a)) refl (λ further. find_first test f len (a + 1) n further (omega (arith, high)) (λ k p q. fails k (omega (arith, p)) q) passes)
  where
    here : test (f a) ≡ true → n ≡ a
    here is = elim (cases a n low) [
      | inl less ↦ absurd (true≢false (sym is ∙ fails a (omega arith) less))
      | inr same ↦ same
    ]
      where
        cases : (a n : ℕ) → a ≤ n → (a < n) ⊎ (n ≡ a)
        cases a n h = grind arith

    later : test (f a) ≡ false → a + 1 ≤ n
    later is = elim (cases a n low) [
      | inl less ↦ omega arith
      | inr same ↦ absurd (false≢true (sym (ap (λ v. test (f v)) (sym same) ∙ is) ∙ passes ∙ refl))
    ]
      where
        cases : (a n : ℕ) → a ≤ n → (a < n) ⊎ (a ≡ n)
        cases a n h = grind arith

    split : (b : Bool) → test (f a) ≡ b → (a + 1 ≤ n → find test (map f (range_with_len (a + 1) len)) ≡ Some (f n)) → find test (map f (range_with_len a (suc len))) ≡ Some (f n)
    split true is rest = cond-true _ _ _ is ∙ ap (λ v. Some (f v)) (sym (here is))
    split false is rest = cond-false _ _ _ is ∙ rest (later is)

-- the candidates before it are taken, and this one is free
pub first_free : (names : List (List ℕ)) (name : List ℕ) (n : ℕ) → length names < 2 ^ 62 → ((k : ℕ) → k < n → is_taken names (candidate name k) ≡ true)
    → is_taken names (candidate name n) ≡ false → free_name names name ≡ candidate name n
first_free names name zero few taken free = ap (λ o. unwrap_or o name) (cond-true _ _ _ (ap not free))
first_free names name (suc m) few taken free = elim (cases (suc m) (length names)) [
  | inl within ↦
      ap (λ o. unwrap_or o name)
      (cond-false _ _ _ (ap not (taken 0 (omega arith)))
      ∙ find_first (λ c. not (is_taken names c)) (numbered name) (length names) 1 (suc m) (omega arith) (omega (arith, within))
      (λ k p q. ap not (ap (is_taken names) (sym (with_number name k p)) ∙ taken k q)) (ap not free))
  | inr beyond ↦
      let is = free_name-is names name few in
      absurd (elim is.1 [
        | inl same ↦ true≢false (sym (ap (is_taken names) (sym same) ∙ taken 0 (omega arith)) ∙ is.0)
        | inr rest ↦
            let found = Member-from_map (numbered name) (range_with_len 1 (length names)) (free_name names name) rest in
            let most = range_with_len-most 1 (length names) found.0 found.1 in
            let low : 1 ≤ found.0 = least 1 (length names) found.0 found.1 in
            true≢false (sym (ap (is_taken names) (sym (with_number name found.0 low ∙ found.2)) ∙ taken found.0 (omega (arith, most, beyond))) ∙ is.0)
      ])
]
  where
    cases : (a b : ℕ) → (a ≤ b) ⊎ (b < a)
    cases a b = grind arith

    least : (a len k : ℕ) → Member (range_with_len a len) k → a ≤ k
    least a zero k m = absurd m
    least a (suc len) k m = elim m [
      | inl same ↦ omega (arith, same)
      | inr rest ↦ omega (arith, least (a + 1) len k rest)
    ]

-- ---- the name that is made free

-- the name itself
pub made_first : (old new : List (List ℕ)) (name bytes : List ℕ) (free : Bool) → bytes ≡ name → IsTold old bytes new free → free ≡ true → IsMadeFree old name name new
made_first old new name bytes free same told is names of few =
    let t = told names of in
    let not_taken : is_taken names name ≡ false = ap (is_taken names) (sym same) ∙ not-true (is_taken names bytes) (sym t.0 ∙ is) in
    (sym (first_free names name 0 few (λ k less. absurd (omega (arith, less))) not_taken), subst (λ v. IsOf new (v ∷ names)) same t.1)

-- the names with lesser numbers are taken
abbrev pub AreTaken : List (List ℕ) → List ℕ → ℕ → List (List ℕ) → Type 0
AreTaken old name number set =
    (names : List (List ℕ)) → IsOf old names → IsOf set names × ((k : ℕ) → k < number → is_taken names (candidate name k) ≡ true)

-- the name with a number
pub made_later : (old set new : List (List ℕ)) (name bytes made : List ℕ) (number : ℕ) (free : Bool) → bytes ≡ made → made ≡ numbered name number → 1 ≤ number → AreTaken old name number set
    → IsTold set bytes new free → free ≡ true → IsMadeFree old name made new
made_later old set new name bytes made number free same made_is low taken told is names of few =
    let so_far = taken names of in
    let t = told names so_far.0 in
    let here : bytes ≡ candidate name number = same ∙ made_is ∙ sym (with_number name number low) in
    let not_taken : is_taken names (candidate name number) ≡ false = ap (is_taken names) (sym here) ∙ not-true (is_taken names bytes) (sym t.0 ∙ is) in
    (sym same ∙ here ∙ sym (first_free names name number few so_far.1 not_taken), subst (λ v. IsOf new (v ∷ names)) same t.1)

pub taken_first : (old new : List (List ℕ)) (name bytes : List ℕ) (free : Bool) → bytes ≡ name → IsTold old bytes new free → free ≡ false → AreTaken old name 1 new
taken_first old new name bytes free same told is names of =
    let t = told names of in
    let taken : is_taken names bytes ≡ true = not-false (is_taken names bytes) (sym t.0 ∙ is) in
    (still_of new names bytes taken t.1, λ k less. only k less (ap (is_taken names) (sym same) ∙ taken))
  where
    only : (k : ℕ) → k < 1 → is_taken names name ≡ true → is_taken names (candidate name k) ≡ true
    only zero less taken = taken
    only (suc k) less taken = absurd (omega (arith, less))

pub taken_later : (old set new : List (List ℕ)) (name bytes made : List ℕ) (number : ℕ) (free : Bool) → bytes ≡ made → made ≡ numbered name number → 1 ≤ number → AreTaken old name number set
    → IsTold set bytes new free → free ≡ false → AreTaken old name (number + 1) new
taken_later old set new name bytes made number free same made_is low taken told is names of =
    let so_far = taken names of in
    let t = told names so_far.0 in
    let here : bytes ≡ candidate name number = same ∙ made_is ∙ sym (with_number name number low) in
    let is_in : is_taken names bytes ≡ true = not-false (is_taken names bytes) (sym t.0 ∙ is) in
    (still_of new names bytes is_in t.1, λ k less. below k less (cases k number less) so_far.1 (ap (is_taken names) (sym here) ∙ is_in))
  where
    cases : (k n : ℕ) → k < n + 1 → (k < n) ⊎ (n ≡ k)
    cases k n less = grind arith

    below : (k : ℕ) → k < number + 1 → (k < number) ⊎ (number ≡ k) → ((j : ℕ) → j < number → is_taken names (candidate name j) ≡ true) → is_taken names (candidate name number) ≡ true
        → is_taken names (candidate name k) ≡ true
    below k less c before last = elim c [ inl lower ↦ before k lower | inr same ↦ subst (λ v. is_taken names (candidate name v) ≡ true) same last ]

-- ---- numbers that are used

-- the set has what it had and the new name
pub added : {K : Type 0} (f : K → List ℕ) (ks new : List K) (k : K) (name : List ℕ) (free : Bool) → f k ≡ lower name
    → free ≡ not (list_any (is_at (λ y. slice_cmp nat_cmp (f k) (f y))) ks) → new ≡ insert_key (λ x y. slice_cmp nat_cmp (f x) (f y)) ks k
    → IsAdded (map f ks) name (map f new) free
added f ks new k name free is free_is new_is = record {
  free = free_is ∙ ap not (has_key f k ks ∙ ap (λ v. list_any (is_name v) (map f ks)) is);
  names = λ q. ap (λ v. list_any (is_name q) (map f v)) new_is ∙ one_key_more f q k ks ∙ (λ t. is_name q (is t) || list_any (is_name q) (map f ks));
}

still_has : (old new : List (List ℕ)) (name other : List ℕ) (free : Bool) → IsAdded old name new free → has old other ≡ true → has new other ≡ true
still_has old new name other free is held = is.names (lower other) ∙ or_right (is_name (lower other) (lower name)) (has old other) held

has_now : (old new : List (List ℕ)) (name : List ℕ) (free : Bool) → IsAdded old name new free → has new name ≡ true
has_now old new name free is = is.names (lower name) ∙ or_left (is_name (lower name) (lower name)) (has old name) (is_name-refl (lower name))

pub used_up_still : (old new : List (List ℕ)) (name letters : List ℕ) (next : ℕ) (free : Bool) → IsAdded old name new free → AreUsedUp old letters next → AreUsedUp new letters next
used_up_still old new name letters next free is used = record {
  from_one = used.from_one;
  used = λ other same number low less. still_has old new name (numbered other number) free is (used.used other same number low less);
}

pub kept_still : {K : Type 0} (kept : BTreeMap K ℕ) (f : K → List ℕ) (old new : List (List ℕ)) (name : List ℕ) (free : Bool) → IsAdded old name new free → AreKept kept f old → AreKept kept f new
kept_still kept f old new name free is all key next at = used_up_still old new name (f key) next free is (all key next at)

-- a name is used with one number more
pub used_more : (old new : List (List ℕ)) (name made : List ℕ) (number : ℕ) (free : Bool) → made ≡ numbered name number → IsAdded old made new free → AreUsed old name number → AreUsed new name (number + 1)
used_more old new name made number free made_is is used k low less = at k low (cases k number less)
  where
    cases : (k n : ℕ) → k < n + 1 → (k < n) ⊎ (n ≡ k)
    cases k n less = grind arith

    at : (k : ℕ) → 1 ≤ k → (k < number) ⊎ (number ≡ k) → has new (numbered name k) ≡ true
    at k low c = elim c [
      | inl before ↦ still_has old new made (numbered name k) free is (used k low before)
      | inr same ↦ ap (has new) (sym (made_is ∙ ap (numbered name) same)) ∙ has_now old new made free is
    ]

-- so are all names that are the same ignoring case
pub used_alike : (taken : List (List ℕ)) (name letters : List ℕ) (next : ℕ) → next < 2 ^ 64 → 1 ≤ next → letters ≡ lower name → AreUsed taken name next → AreUsedUp taken letters next
used_alike taken name letters next small low is used = record {
  from_one = low;
  used = λ other same number one less. ap (λ v. list_any (is_name v) taken) (alike other number (sym same ∙ is) (omega (arith, less, small))) ∙ used number one less;
}
  where
    alike : (other : List ℕ) (number : ℕ) → lower other ≡ lower name → number < 2 ^ 64 → lower (numbered other number) ≡ lower (numbered name number)
    alike other number same small =
        lower_numbered other (codes "_") number small ∙ ap (λ v. v ++ (lower (codes "_") ++ decimal number)) same ∙ sym (lower_numbered name (codes "_") number small)

-- the name itself is taken, and so it is with the numbers that are used
pub taken_from : (old new : List (List ℕ)) (name bytes letters : List ℕ) (free : Bool) (next : ℕ) → bytes ≡ name → letters ≡ lower name → IsTold old bytes new free → free ≡ false → AreUsedUp new letters next → AreTaken old name next new
taken_from old new name bytes letters free next same is told_is not_free used names of =
    let first = taken_first old new name bytes free same told_is not_free names of in
    (first.0, λ k less. at first.0 k less (first.1 0 (omega arith)))
  where
    at : IsOf new names → (k : ℕ) → k < next → is_taken names (candidate name 0) ≡ true → is_taken names (candidate name k) ≡ true
    at still zero less here = here
    at still (suc k) less here =
        taken_lower names (numbered name (suc k)) ∙ sym (still (lower (numbered name (suc k)))) ∙ used.used name is (suc k) (omega arith) less

-- ---- names are identifiers

-- a number in digits is one
digits_identifier : (n : ℕ) → n < 2 ^ 64 → IsIdentifier (decimal n)
digits_identifier n small =
    let numeral = decimal_is_IsNumeral n small in
    (numeral.0.0, All-member (λ b. is_identifier_byte b ≡ true) (decimal n) (digits_pass (decimal n) numeral.0.1))

pub numbered_identifier : (name : List ℕ) (n : ℕ) → n < 2 ^ 64 → IsIdentifier name → IsIdentifier (numbered name n)
numbered_identifier name n small is = wanted_identifier name (decimal n) is (digits_identifier n small)

-- ---- numbers that are kept

-- what is kept for one name more
pub kept_more : {K : Type 0} (f : K → List ℕ) (old new : BTreeMap K ℕ) (taken : List (List ℕ)) (key : K) (next : ℕ) → Updates (λ x y. slice_cmp nat_cmp (f x) (f y)) old new key (Some next) → AreUsedUp taken (f key) next → AreKept old f taken → AreKept new f taken
kept_more {K} f old new taken key next updates used all other number at = by (is_at (λ y. slice_cmp nat_cmp (f key) (f y)) other) refl
  where
    value : (b : Bool) → is_at (λ y. slice_cmp nat_cmp (f key) (f y)) other ≡ b → get (λ x y. slice_cmp nat_cmp (f x) (f y)) new other ≡ cond b (Some next) (get (λ x y. slice_cmp nat_cmp (f x) (f y)) old other)
    value b is = updates.0 other ∙ ap (λ t. cond t (Some next) (get (λ x y. slice_cmp nat_cmp (f x) (f y)) old other)) is

    by : (b : Bool) → is_at (λ y. slice_cmp nat_cmp (f key) (f y)) other ≡ b → AreUsedUp taken (f other) number
    by true is =
        let both : Some next ≡ Some number = sym (value true is) ∙ at in
        let same : next ≡ number = cc in
        let letters : f key ≡ f other = same_name (f key) (f other) (sym (tied (f key) (f other)) ∙ is) in
        subst (λ (n : ℕ). AreUsedUp taken (f other) n) same (subst (λ v. AreUsedUp taken v next) letters used)
    by false is = all other number (sym (value false is) ∙ at)

pub kept_same : {K : Type 0} (f : K → List ℕ) (old new : BTreeMap K ℕ) (taken : List (List ℕ)) → new.entries ≡ old.entries → AreKept old f taken → AreKept new f taken
kept_same f old new taken same all key next at = all key next (ap (λ es. lookup (is_at (λ y. slice_cmp nat_cmp (f key) (f y))) es) (sym same) ∙ at)

pub used_none : (taken : List (List ℕ)) (letters : List ℕ) → AreUsedUp taken letters 1
used_none taken letters = record { from_one = omega arith; used = λ name same number low less. absurd (omega (arith, low, less)) }
