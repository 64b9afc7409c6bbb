-- Names for what moves up are free, and are names.
use Rattle.std.proofs.Common.{◌≡◌, ◌≢◌, ◌≤◌, ◌<◌, ◌+◌, ◌^◌, ◌⊎◌, ℕ, zero, suc, List, [], ◌∷◌, ◌++◌, map, length, refl, sym, ap, subst, ◌∙◌, inl, inr, arith, Option, Some, None, Bool, true, false, not, length-append, append_assoc}
use Rattle.std.specs.Prelude.{IfSome, find, codes, decimal, unwrap_or}
use Rattle.std.specs.List.{All, AllPass, list_any, range_with_len}
use Rattle.std.specs.Str.Parse.{AllDigits}
use Rattle.std.proofs.lemmas.Bool.{cases_Bool, true≢false, false≢true, cond-true, cond-false, or_cases, not-true, not-false, or_parts}
use Rattle.std.proofs.lemmas.Fmt.{decimal_is_IsNumeral}
use Rattle.std.proofs.lemmas.Str.Parse.{digit_from_value}
use Rattle.netlist_schema.specs.Ident.{IsIdentifier, is_identifier_byte}
use Rattle.netlist_schema.specs.Typed.{IsBytes, IsTypedName}
use Rattle.netlist_schema.specs.Types.{Name}
use Rattle.edit_rules_spec.specs.Find.{is_same}
use Rattle.edit_rules_spec.proofs.Numbers.{lower, lower_numbered, numbers_apart}
use Rattle.edit_rules_spec.proofs.Refusals.{same_name}
use Rattle.edit_rules_spec.proofs.Closed.{All-contained, All-from_contained}
use Rattle.edit_rules_spec.proofs.Refusals.{is_same-refl}
use Rattle.flat_spec.proofs.ListLemmas.{Member, Member-append_cases, Member-map, Member-from_map, Contains-member, Member-contains, pigeons}
use Rattle.flat_spec.proofs.OccurrenceLemmas.{range_with_len-most, range_with_len-member}
use Rattle.ungroup_spec.specs.Names.{is_taken, numbered, candidates, free_name, displayed, name_up, named_up}
use Rattle.ungroup_spec.proofs.ApartLemmas.{Apart}

-- ---- lists by their elements

pub All-member : {A : Type 0} (P : A → Type 0) (xs : List A) → ((x : A) → Member xs x → P x) → All P xs
All-member P xs each = All-from_contained P xs (λ x has. each x (Contains-member xs x has))

pub member-All : {A : Type 0} (P : A → Type 0) (xs : List A) (x : A) → All P xs → Member xs x → P x
member-All P xs x all m = All-contained P xs x all (Member-contains xs x m)

find-cases : {A : Type 0} (test : A → Bool) (xs : List A)
    → ((find test xs ≡ None) × ((x : A) → Member xs x → test x ≡ false)) ⊎ ((x : A) × (find test xs ≡ Some x) × (test x ≡ true) × Member xs x)
find-cases test [] = inl (refl, λ x m. absurd m)
find-cases {A} test (x ∷ xs) =
    elim (cases_Bool (test x)) [
      | inl passes ↦ inr (x, cond-true _ _ _ passes, passes, inl refl)
      | inr fails ↦ elim (find-cases test xs) [
        | inl none ↦ inl (cond-false _ _ _ fails ∙ none.0, λ y m. elim m [ inl same ↦ subst (λ v. test v ≡ false) same fails | inr rest ↦ none.1 y rest ])
        | inr some ↦ inr (some.0, cond-false _ _ _ fails ∙ some.1, some.2, inr some.3)
      ]
    ]

-- ---- names in lower case

longer : (xs ys : List ℕ) → 0 < length ys → xs ++ ys ≡ xs → ⊥
longer xs ys h e =
    let lengths : length xs + length ys ≡ length xs = sym (length-append xs ys) ∙ ap length e in
    omega (arith, h, lengths)

numbered_other : (name : List ℕ) (n : ℕ) → n < 2 ^ 64 → lower (numbered name n) ≡ lower name → ⊥
numbered_other name n small e = longer (lower name) (lower (codes "_") ++ decimal n) (omega arith) (sym (lower_numbered name (codes "_") n small) ∙ e)

-- what is taken is among the names in lower case
taken_member : (taken : List (List ℕ)) (name : List ℕ) → is_taken taken name ≡ true → Member (map lower taken) (lower name)
taken_member [] name e = absurd (false≢true e)
taken_member (other ∷ taken) name e = elim (or_cases _ _ e) [
  | inl here ↦ inl (sym (same_name (lower name) (lower other) here))
  | inr later ↦ inr (taken_member taken name later)
]

-- what is not taken is none of the names
pub free_other : (taken : List (List ℕ)) (name other : List ℕ) → is_taken taken name ≡ false → Member taken other → name ≢ other
free_other [] name other e m same = m
free_other (x ∷ taken) name other e m same =
    let parts = or_parts (is_same name x) (list_any (is_same name) taken) e in
    elim m [
      | inl here ↦ true≢false (sym (is_same-refl name x (same ∙ sym here)) ∙ parts.0)
      | inr rest ↦ free_other taken name other parts.1 rest same
    ]

abbrev candidate : List ℕ → ℕ → List ℕ
candidate name zero = name
candidate name (suc n) = numbered name (suc n)

candidate_member : (taken : List (List ℕ)) (name : List ℕ) (k : ℕ) → k < suc (length taken) → Member (candidates taken name) (candidate name k)
candidate_member taken name zero h = inl refl
candidate_member taken name (suc k) h =
    inr (Member-map (numbered name) (range_with_len 1 (length taken)) (suc k) (range_with_len-member 1 (length taken) (suc k) (omega arith) (omega (arith, h))))

candidates_apart : (name : List ℕ) (j k : ℕ) → j < k → k < 2 ^ 64 → lower (candidate name k) ≡ lower (candidate name j) → ⊥
candidates_apart name j zero less small e = omega (arith, less)
candidates_apart name zero (suc k) less small e = numbered_other name (suc k) small e
candidates_apart name (suc j) (suc k) less small e =
    let same = numbers_apart name (codes "_") (suc k) (suc j) small (omega (arith, less, small)) e in
    omega (arith, less, same)

length-lower : (xs : List (List ℕ)) → length (map lower xs) ≡ length xs
length-lower [] = refl
length-lower (x ∷ xs) = ap suc (length-lower xs)

-- the first free name is free, and is one of the candidates
pub free_name-is : (taken : List (List ℕ)) (name : List ℕ) → length taken < 2 ^ 62
    → (is_taken taken (free_name taken name) ≡ false) × Member (candidates taken name) (free_name taken name)
free_name-is taken name few =
    elim (find-cases (λ c. not (is_taken taken c)) (candidates taken name)) [
      | inr some ↦
          let is : some.0 ≡ free_name taken name = sym (ap (λ o. unwrap_or o name) some.1) in
          (subst (λ v. is_taken taken v ≡ false) is (not-true (is_taken taken some.0) some.2), subst (λ v. Member (candidates taken name) v) is some.3)
      | inl none ↦
          let many = pigeons (λ k. lower (candidate name k)) (suc (length taken)) 0 (map lower taken)
          (λ j k p q r same. candidates_apart name j k q (omega (arith, r, few)) same)
          (λ k p q. taken_member taken (candidate name k) (not-false (is_taken taken (candidate name k)) (none.1 (candidate name k) (candidate_member taken name k (omega (arith, q)))))) in
          absurd (omega (arith, many, length-lower taken))
    ]

-- ---- names are names

identifier-append : (xs ys : List ℕ) → IsIdentifier xs → AllPass is_identifier_byte ys → IsIdentifier (xs ++ ys)
identifier-append xs ys is all =
    let more : 0 < length (xs ++ ys) = omega (arith, is.0, length-append xs ys) in (
      more,
      All-member (λ b. is_identifier_byte b ≡ true) (xs ++ ys) (λ b m. elim (Member-append_cases xs ys b m) [
        | inl left ↦ member-All (λ v. is_identifier_byte v ≡ true) xs b is.1 left
        | inr right ↦ member-All (λ v. is_identifier_byte v ≡ true) ys b all right
      ]),
    )

digit_byte : (c : ℕ) → 48 ≤ c → c ≤ 57 → is_identifier_byte c ≡ true
digit_byte c low high = grind (arith, low, high)

pub digits_pass : (ds : List ℕ) → AllDigits 10 ds → (b : ℕ) → Member ds b → is_identifier_byte b ≡ true
digits_pass [] d b m = absurd m
digits_pass (c ∷ cs) d b m =
    elim m [
      | inl same ↦ let r = digit_from_value c d.0 in subst (λ v. is_identifier_byte v ≡ true) same (digit_byte c (omega (arith, r)) (omega (arith, r)))
      | inr rest ↦ digits_pass cs d.1 b rest
    ]

underscore : (ys : List ℕ) → AllPass is_identifier_byte ys → AllPass is_identifier_byte (codes "_" ++ ys)
underscore ys all =
    All-member (λ b. is_identifier_byte b ≡ true) (codes "_" ++ ys) (λ b m. elim (Member-append_cases (codes "_") ys b m) [
      | inl here ↦ elim here [ inl same ↦ subst (λ v. is_identifier_byte v ≡ true) same refl | inr none ↦ absurd none ]
      | inr rest ↦ member-All (λ v. is_identifier_byte v ≡ true) ys b all rest
    ])

pub wanted_identifier : (a b : List ℕ) → IsIdentifier a → IsIdentifier b → IsIdentifier (a ++ codes "_" ++ b)
wanted_identifier a b is is' = subst IsIdentifier (sym (append_assoc a (codes "_") b)) (identifier-append a (codes "_" ++ b) is (underscore b is'.1))

free_identifier : (taken : List (List ℕ)) (name : List ℕ) → length taken < 2 ^ 62 → IsIdentifier name → IsIdentifier (free_name taken name)
free_identifier taken name few is =
    elim (free_name-is taken name few).1 [
      | inl same ↦ subst IsIdentifier same is
      | inr rest ↦
          let found = Member-from_map (numbered name) (range_with_len 1 (length taken)) (free_name taken name) rest in
          let most = range_with_len-most 1 (length taken) found.0 found.1 in
          let small : found.0 < 2 ^ 64 = omega (arith, most, few) in
          let digits = All-member (λ b. is_identifier_byte b ≡ true) (decimal found.0) (digits_pass (decimal found.0) (decimal_is_IsNumeral found.0 small).0.1) in
          subst IsIdentifier found.2
          (subst IsIdentifier (sym (append_assoc name (codes "_") (decimal found.0)))
          (identifier-append name (codes "_" ++ decimal found.0) is (underscore (decimal found.0) digits)))
    ]

bytes-append : (xs ys : List ℕ) → IsBytes xs → IsBytes ys → IsBytes (xs ++ ys)
bytes-append xs ys p q =
    All-member (λ b. b < 256) (xs ++ ys) (λ b m. elim (Member-append_cases xs ys b m) [
      | inl left ↦ member-All (λ v. v < 256) xs b p left
      | inr right ↦ member-All (λ v. v < 256) ys b q right
    ])

identifier_byte-small : (b : ℕ) → is_identifier_byte b ≡ true → b < 256
identifier_byte-small b e = grind (arith, e)

displayed-bytes : (name : Name) → IsTypedName name → IsBytes (displayed name)
displayed-bytes name is = go name.shown is.shown
  where
    go : (o : Option (List ℕ)) → IfSome o IsBytes → IsBytes (unwrap_or o name.id)
    go None all = All-member (λ b. b < 256) name.id (λ b m. identifier_byte-small b (member-All (λ v. is_identifier_byte v ≡ true) name.id b is.id.1 m))
    go (Some text) all = all

-- a name for what moves up is one
pub name_up-typed : (taken : List (List ℕ)) (inst name : Name) → length taken < 2 ^ 62 → IsTypedName inst → IsTypedName name → IsTypedName (name_up taken inst name)
name_up-typed taken inst name few is is' = record {
  id = free_identifier taken (inst.id ++ codes "_" ++ name.id) few (wanted_identifier inst.id name.id is.id is'.id);
  shown = bytes-append (displayed inst ++ codes "/") (displayed name)
      (bytes-append (displayed inst) (codes "/") (displayed-bytes inst is) (All-member (λ b. b < 256) (codes "/") (λ b m. elim m [ inl same ↦ subst (λ v. v < 256) same (omega arith) | inr none ↦ absurd none ])))
      (displayed-bytes name is');
}

-- ---- all that move up

-- each is one of those before with a name for it
pub named_up-member : {X : Type 0} (name_of : X → Name) (with_name : Name → X → X) (taken : List (List ℕ)) (inst : Name) (xs : List X) (y : X)
    → Member (named_up name_of with_name taken inst xs) y
    → (x : X) × Member xs x × (more : List (List ℕ)) × (length more ≤ length taken + length xs) × (y ≡ with_name (name_up more inst (name_of x)) x)
named_up-member name_of with_name taken inst [] y m = absurd m
named_up-member name_of with_name taken inst (x ∷ xs) y m =
    elim m [
      | inl same ↦ (x, inl refl, taken, omega arith, sym same)
      | inr rest ↦
          let found = named_up-member name_of with_name ((name_up taken inst (name_of x)).id ∷ taken) inst xs y rest in
          let most : length found.2 ≤ suc (length taken) + length xs = found.3 in
          (found.0, inr found.1, found.2, omega (arith, most), found.4)
    ]

-- their names differ from those that are taken, and from each other
pub named_up-apart : {X : Type 0} (name_of : X → Name) (with_name : Name → X → X) → ((n : Name) (x : X) → name_of (with_name n x) ≡ n)
    → (taken : List (List ℕ)) (inst : Name) (xs : List X) → length taken + length xs < 2 ^ 62
    → Apart (map (λ x. (name_of x).id) (named_up name_of with_name taken inst xs))
    × ((id : List ℕ) → Member (map (λ x. (name_of x).id) (named_up name_of with_name taken inst xs)) id → is_taken taken id ≡ false)
named_up-apart name_of with_name named taken inst [] few = (tt, λ id m. absurd m)
named_up-apart {X} name_of with_name named taken inst (x ∷ xs) few =
    let name = name_up taken inst (name_of x) in
    let small : length taken < 2 ^ 62 = omega (arith, few) in
    let rest = named_up-apart name_of with_name named (name.id ∷ taken) inst xs (omega (arith, few)) in
    let here : (name_of (with_name name x)).id ≡ name.id = ap (λ (n : Name). n.id) (named name x) in
    let free : is_taken taken name.id ≡ false = (free_name-is taken (inst.id ++ codes "_" ++ (name_of x).id) small).0 in (
      (λ id m same. free_other (name.id ∷ taken) id name.id (rest.1 id m) (inl refl) (sym same ∙ here), rest.0),
      λ id m. elim m [
        | inl same ↦ subst (λ v. is_taken taken v ≡ false) (sym here ∙ same) free
        | inr later ↦ (or_parts (is_same id name.id) (list_any (is_same id) taken) (rest.1 id later)).1
      ],
    )
