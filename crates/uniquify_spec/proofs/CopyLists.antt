-- Lists of copies: their places, and the look-ups by path.
use Rattle.std.proofs.Common.{◌≡◌, ◌≢◌, ◌≤◌, ◌<◌, ◌+◌, ◌⊎◌, ℕ, List, [], ◌∷◌, ◌++◌, map, length, refl, sym, ap, subst, ◌∙◌, inl, inr, arith, Some, None, Bool, true, false, cond, length-append, eq-eqb}
use Rattle.std.specs.Prelude.{◌==◌, filter, find}
use Rattle.std.specs.List.{list_any}
use Rattle.std.specs.Cmp.Lexicographic.{bytes_decides}
use Rattle.std.proofs.lemmas.Bool.{cases_Bool, cond-true, cond-false, true≢false, or_parts}
use Rattle.std.proofs.lemmas.List.{length-map}
use Rattle.netlist_schema.specs.Design.{Design, cells_in}
use Rattle.netlist_schema.specs.Hierarchy.{IsCell}
use Rattle.netlist_schema.specs.Names.{cell_names}
use Rattle.netlist_schema.specs.Types.{CellBody, CellId, LibId}
use Rattle.flat_spec.proofs.ListLemmas.{Member}
use Rattle.flat_spec.proofs.PathLemmas.{slice_get-within}
use Rattle.uniquify_spec.specs.Copies.{Copy, same_path, is_copy_at, copies_in, names_with}

pub same_path-true : (p q : List ℕ) → same_path p q ≡ true → p ≡ q
same_path-true p q e = (bytes_decides p q).0 e

pub same_path-refl : (p : List ℕ) → same_path p p ≡ true
same_path-refl p = (bytes_decides p p).1 refl

-- ---- what is found

pub find-cases : {A : Type 0} (test : A → Bool) (xs : List A)
    → ((find test xs ≡ None) × ((x : A) → Member xs x → test x ≡ false)) ⊎ ((x : A) × (find test xs ≡ Some x) × Member xs x × (test x ≡ true))
find-cases test [] = inl (refl, λ x m. absurd m)
find-cases {A} test (v ∷ xs) = elim (cases_Bool (test v)) [
  | inl passes ↦ inr (v, cond-true _ _ _ passes, inl refl, passes)
  | inr fails ↦ elim (find-cases test xs) [
    | inl none ↦ inl (cond-false _ _ _ fails ∙ none.0, λ x m. elim m [ inl e ↦ subst (λ y. test y ≡ false) e fails | inr rest ↦ none.1 x rest ])
    | inr some ↦ inr (some.0, cond-false _ _ _ fails ∙ some.1, inr some.2, some.3)
  ]
]

-- the copy at a path is one of the copies, and its path is this one
pub copy-cases : (copies : List Copy) (path : List ℕ)
    → ((find (is_copy_at path) copies ≡ None) × ((m : Copy) → Member copies m → m.path ≢ path))
    ⊎ ((m : Copy) × (find (is_copy_at path) copies ≡ Some m) × Member copies m × (m.path ≡ path))
copy-cases copies path = elim (find-cases (is_copy_at path) copies) [
  | inl none ↦ inl (none.0, λ m member same. true≢false (sym (subst (λ p. same_path m.path p ≡ true) same (same_path-refl m.path)) ∙ none.1 m member))
  | inr some ↦ inr (some.0, some.1, some.2, same_path-true some.0.path path some.3)
]

pub any-member : {A : Type 0} (test : A → Bool) (xs : List A) → list_any test xs ≡ false → (x : A) → Member xs x → test x ≡ false
any-member test [] none x m = absurd m
any-member test (v ∷ xs) none x m =
    let both = or_parts (test v) (list_any test xs) none in
    elim m [ inl e ↦ subst (λ y. test y ≡ false) e both.0 | inr rest ↦ any-member test xs both.1 x rest ]

-- ---- places of copies

-- the copy goes last in the library of the cell that it copies, behind the copies before it
pub record IsNew (d : Design) (before : List Copy) (m : Copy) : Type 0 where
  pub slot : m.id.slot ≡ length (names_with d before m.id.lib)
  pub lib : m.id.lib ≡ m.of.lib
  pub cell : IsCell d m.of

abbrev pub AreNew : Design → List Copy → List Copy → Type 0
AreNew d before [] = Unit {0}
AreNew d before (m ∷ ms) = IsNew d before m × AreNew d (before ++ m ∷ []) ms

length-filter_more : {A : Type 0} (test : A → Bool) (xs : List A) (x : A) → length (filter test (xs ++ x ∷ [])) ≡ length (filter test xs) + cond (test x) 1 0
length-filter_more test [] x = last (test x)
  where
    last : (b : Bool) → length (cond b (x ∷ []) []) ≡ 0 + cond b 1 0
    last true = omega arith
    last false = omega arith
length-filter_more {A = A} test (v ∷ xs) x = more (test v) (filter test xs) (filter test (xs ++ x ∷ [])) (length-filter_more test xs x)
  where
    more : (b : Bool) (less all : List A) → length all ≡ length less + cond (test x) 1 0 → length (cond b (v ∷ all) all) ≡ length (cond b (v ∷ less) less) + cond (test x) 1 0
    more true less all e = omega (arith, e)
    more false less all e = e

pub length-names : (d : Design) (ms : List Copy) (lib : LibId) → length (names_with d ms lib) ≡ length (cells_in d lib) + length (copies_in lib ms)
length-names d ms lib =
    length-append (cell_names (cells_in d lib)) (map (λ copy. copy.name.id) (copies_in lib ms))
    ∙ (λ i. length-map (cells_in d lib) (λ (c : CellBody). c.name.id) i + length-map (copies_in lib ms) (λ (m : Copy). m.name.id) i)

pub length-names_more : (d : Design) (before : List Copy) (m : Copy) (lib : LibId)
    → length (names_with d (before ++ m ∷ []) lib) ≡ length (names_with d before lib) + cond (m.id.lib.0 == lib.0) 1 0
length-names_more d before m lib =
    let all = length-names d (before ++ m ∷ []) lib in
    let less = length-names d before lib in
    let more = length-filter_more (λ copy. copy.id.lib.0 == lib.0) before m in
    all ∙ (λ i. length (cells_in d lib) + more i)
    ∙ sum (length (cells_in d lib)) (length (copies_in lib before)) (cond (m.id.lib.0 == lib.0) 1 0)
    ∙ (λ i. sym less i + cond (m.id.lib.0 == lib.0) 1 0)
  where
    sum : (a b c : ℕ) → a + (b + c) ≡ (a + b) + c
    sum a b c = omega arith

names_grow : (d : Design) (before : List Copy) (m : Copy) (lib : LibId) → length (names_with d before lib) ≤ length (names_with d (before ++ m ∷ []) lib)
names_grow d before m lib = let more = length-names_more d before m lib in omega (arith, more)

-- a copy stands behind all that were there when it was made
pub later_slot : (d : Design) (ms before : List Copy) → AreNew d before ms → (m : Copy) → Member ms m → length (names_with d before m.id.lib) ≤ m.id.slot
later_slot d [] before new m member = absurd member
later_slot d (v ∷ ms) before new m member = elim member [
  | inl e ↦ subst (λ (x : Copy). length (names_with d before x.id.lib) ≤ x.id.slot) e (let at = new.0.slot in omega (arith, at))
  | inr rest ↦ let later = later_slot d ms (before ++ v ∷ []) new.1 m rest in let grow = names_grow d before v m.id.lib in omega (arith, later, grow)
]

-- so a later copy has another place than an earlier one
pub later_apart : (d : Design) (v : Copy) (ms before : List Copy) → AreNew d before (v ∷ ms) → (m : Copy) → Member ms m → v.id ≢ m.id
later_apart d v ms before new m member same =
    let later = later_slot d ms (before ++ v ∷ []) new.1 m member in
    let here = new.0.slot in
    let more = length-names_more d before v v.id.lib in
    let one : ◌≡◌ {A = ℕ} (cond (v.id.lib.0 == v.id.lib.0) 1 0) 1 = cond-true _ _ _ (eq-eqb v.id.lib.0 v.id.lib.0 refl) in
    let moved : length (names_with d (before ++ v ∷ []) v.id.lib) ≤ v.id.slot = subst (λ (k : CellId). length (names_with d (before ++ v ∷ []) k.lib) ≤ k.slot) (sym same) later in
    omega (arith, here, more, one, moved)

-- copies of one place are one copy
pub same_copy : (d : Design) (ms before : List Copy) → AreNew d before ms → (m n : Copy) → Member ms m → Member ms n → m.id ≡ n.id → m ≡ n
same_copy d [] before new m n p q same = absurd p
same_copy d (v ∷ ms) before new m n p q same = elim p [
  | inl e ↦ elim q [
    | inl f ↦ sym e ∙ f
    | inr later ↦ absurd (later_apart d v ms before new n later (ap (λ (x : Copy). x.id) e ∙ same))
  ]
  | inr rest ↦ elim q [
    | inl f ↦ absurd (later_apart d v ms before new m rest (ap (λ (x : Copy). x.id) f ∙ sym same))
    | inr later ↦ same_copy d ms (before ++ v ∷ []) new.1 m n rest later same
  ]
]

-- a copy is no cell that was there
pub new_apart : (d : Design) (ms : List Copy) → AreNew d [] ms → (m : Copy) → Member ms m → (id : CellId) → IsCell d id → id ≢ m.id
new_apart d ms new m member id is same =
    let later = later_slot d ms [] new m member in
    let there = slice_get-within (cells_in d id.lib) id.slot is in
    let all = length-names d [] m.id.lib in
    let moved : m.id.slot < length (cells_in d m.id.lib) = subst (λ (k : CellId). k.slot < length (cells_in d k.lib)) same there in
    omega (arith, later, all, moved)
