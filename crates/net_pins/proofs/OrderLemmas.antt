-- The order of pins as a test, and what stands between two places.
use Rattle.std.proofs.Common.{◌≡◌, ◌⊎◌, ℕ, List, [], ◌∷◌, ◌++◌, true, false, ◌&&◌, refl, sym, ap, subst, ◌∙◌, inl, inr, arith}
use Rattle.std.specs.Prelude.{nat_eq, nat_lt}
use Rattle.std.specs.Cmp.Lexicographic.{pointwise}
use Rattle.std.proofs.lemmas.Bool.{and_from, and_parts, cases_order, eq-eqb, eqb-true, false_from_ne_true, false≢true, lt-ltb, ltb-true, or_cases, or_left, or_right}
use Rattle.flat_spec.specs.PathOrder.{PathBefore}
use Rattle.flat_spec.specs.Paths.{Bit}
use Rattle.erc_spec.specs.Told.{BitBefore, PinBefore}
use Rattle.net_rows.specs.Tops.{bit_before}
use Rattle.net_rows.proofs.BitLemmas.{bit_before-from, bit_before-true}
use Rattle.net_pins.specs.Order.{PinPlace, path_before, place_before}

-- the tests tell the order
pub path_before-true : (p q : List ℕ) → path_before p q ≡ true → PathBefore p q
path_before-true [] [] e = absurd (false≢true e)
path_before-true [] (j ∷ q) e = tt
path_before-true (i ∷ p) [] e = absurd (false≢true e)
path_before-true (i ∷ p) (j ∷ q) e = elim (or_cases (nat_lt i j) (nat_eq i j && path_before p q) e) [
  | inl less ↦ inl (ltb-true i j less)
  | inr same ↦ let parts = and_parts (nat_eq i j) (path_before p q) same in inr (eqb-true i j parts.0, path_before-true p q parts.1)
]

pub path_before-from : (p q : List ℕ) → PathBefore p q → path_before p q ≡ true
path_before-from [] [] h = absurd h
path_before-from [] (j ∷ q) h = refl
path_before-from (i ∷ p) [] h = absurd h
path_before-from (i ∷ p) (j ∷ q) h = elim h [
  | inl less ↦ or_left (nat_lt i j) (nat_eq i j && path_before p q) (lt-ltb i j less)
  | inr same ↦ or_right (nat_lt i j) (nat_eq i j && path_before p q) (and_from (nat_eq i j) (path_before p q) (eq-eqb i j same.0) (path_before-from p q same.1))
]

pub same_path-true : (p q : List ℕ) → pointwise nat_eq p q ≡ true → p ≡ q
same_path-true [] [] e = refl
same_path-true [] (j ∷ q) e = absurd (false≢true e)
same_path-true (i ∷ p) [] e = absurd (false≢true e)
same_path-true (i ∷ p) (j ∷ q) e =
    let parts = and_parts (nat_eq i j) (pointwise nat_eq p q) e in λ k. eqb-true i j parts.0 k ∷ same_path-true p q parts.1 k

pub same_path-refl : (p : List ℕ) → pointwise nat_eq p p ≡ true
same_path-refl [] = refl
same_path-refl (i ∷ p) = and_from (nat_eq i i) (pointwise nat_eq p p) (eq-eqb i i refl) (same_path-refl p)

pub place_before-true : (p q : PinPlace) → place_before p q ≡ true → PinBefore p q
place_before-true p q e = elim (or_cases (path_before p.0 q.0) (pointwise nat_eq p.0 q.0 && bit_before p.1 q.1) e) [
  | inl less ↦ inl (path_before-true p.0 q.0 less)
  | inr same ↦
      let parts = and_parts (pointwise nat_eq p.0 q.0) (bit_before p.1 q.1) same in inr (same_path-true p.0 q.0 parts.0, bit_before-true p.1 q.1 parts.1)
]

pub place_before-from : (p q : PinPlace) → PinBefore p q → place_before p q ≡ true
place_before-from p q h = elim h [
  | inl less ↦ or_left (path_before p.0 q.0) (pointwise nat_eq p.0 q.0 && bit_before p.1 q.1) (path_before-from p.0 q.0 less)
  | inr same ↦ or_right (path_before p.0 q.0) (pointwise nat_eq p.0 q.0 && bit_before p.1 q.1)
      (and_from (pointwise nat_eq p.0 q.0) (bit_before p.1 q.1) (subst (λ v. pointwise nat_eq p.0 v ≡ true) same.0 (same_path-refl p.0)) (bit_before-from p.1 q.1 same.1))
]

pub place_before-false : (p q : PinPlace) → (PinBefore p q → ⊥) → place_before p q ≡ false
place_before-false p q none = false_from_ne_true (place_before p q) (λ e. none (place_before-true p q e))

pub not_place_before : (p q : PinPlace) → place_before p q ≡ false → PinBefore p q → ⊥
not_place_before p q e h = false≢true (sym e ∙ place_before-from p q h)

-- the order goes on
pub PathBefore-more : (p q r : List ℕ) → PathBefore p q → PathBefore q r → PathBefore p r
PathBefore-more [] [] r h k = absurd h
PathBefore-more [] (j ∷ q) [] h k = absurd k
PathBefore-more [] (j ∷ q) (l ∷ r) h k = tt
PathBefore-more (i ∷ p) [] r h k = absurd h
PathBefore-more (i ∷ p) (j ∷ q) [] h k = absurd k
PathBefore-more (i ∷ p) (j ∷ q) (l ∷ r) h k = elim h [
  | inl a ↦ elim k [ inl b ↦ inl (omega (arith, a, b)) | inr b ↦ inl (omega (arith, a, b.0)) ]
  | inr a ↦ elim k [ inl b ↦ inl (omega (arith, a.0, b)) | inr b ↦ inr (a.0 ∙ b.0, PathBefore-more p q r a.1 b.1) ]
]

BitBefore-more : (a b c : Bit) → BitBefore a b → BitBefore b c → BitBefore a c
BitBefore-more a b c h k = elim h [
  | inl p ↦ elim k [ inl q ↦ inl (omega (arith, p, q)) | inr q ↦ inl (omega (arith, p, q.0)) ]
  | inr p ↦ elim k [ inl q ↦ inl (omega (arith, p.0, q)) | inr q ↦ inr (p.0 ∙ q.0, omega (arith, p.1, q.1)) ]
]

pub PinBefore-more : (p q r : PinPlace) → PinBefore p q → PinBefore q r → PinBefore p r
PinBefore-more p q r h k = elim h [
  | inl a ↦ elim k [ inl b ↦ inl (PathBefore-more p.0 q.0 r.0 a b) | inr b ↦ inl (subst (PathBefore p.0) b.0 a) ]
  | inr a ↦ elim k [ inl b ↦ inl (subst (λ v. PathBefore v r.0) (sym a.0) b) | inr b ↦ inr (a.0 ∙ b.0, BitBefore-more p.1 q.1 r.1 a.1 b.1) ]
]

-- no bit comes before the first
pub none_before_first : (b : Bit) → BitBefore b (record { port = 0; bit = 0 }) → ⊥
none_before_first b h = elim h [ inl less ↦ omega (arith, less) | inr less ↦ omega (arith, less.1) ]

-- of two bits one comes before the other, or they are one
pub bits_compare : (a b : Bit) → BitBefore a b ⊎ ((a ≡ b) ⊎ BitBefore b a)
bits_compare a b = elim (cases_order a.port b.port) [
  | inl port ↦ elim (cases_order a.bit b.bit) [
    | inl bit ↦ inr (inl (λ i. record { port = port i; bit = bit i }))
    | inr apart ↦ elim apart [ inl less ↦ inl (inr (port, less)) | inr more ↦ inr (inr (inr (sym port, more))) ]
  ]
  | inr apart ↦ elim apart [ inl less ↦ inl (inl less) | inr more ↦ inr (inr (inl more)) ]
]

-- a front that both have is of no account
pub PathBefore-under : (front p q : List ℕ) → PathBefore p q → PathBefore (front ++ p) (front ++ q)
PathBefore-under [] p q h = h
PathBefore-under (i ∷ front) p q h = inr (refl, PathBefore-under front p q h)

pub PathBefore-strip : (front p q : List ℕ) → PathBefore (front ++ p) (front ++ q) → PathBefore p q
PathBefore-strip [] p q h = h
PathBefore-strip (i ∷ front) p q h = elim h [ inl less ↦ absurd (omega (arith, less)) | inr same ↦ PathBefore-strip front p q same.1 ]

tail_is : (i j : ℕ) (p q : List ℕ) → i ∷ p ≡ j ∷ q → p ≡ q
tail_is i j p q e = cc e

head_is : (i j : ℕ) (p q : List ℕ) → i ∷ p ≡ j ∷ q → i ≡ j
head_is i j p q e = cc e

append_strip : (front p q : List ℕ) → front ++ p ≡ front ++ q → p ≡ q
append_strip [] p q e = e
append_strip (i ∷ front) p q e = append_strip front p q (tail_is i i (front ++ p) (front ++ q) e)

pub PinBefore-under : (front p q : List ℕ) (a b : Bit) → PinBefore (p, a) (q, b) → PinBefore (front ++ p, a) (front ++ q, b)
PinBefore-under front p q a b h = elim h [
  | inl less ↦ inl (PathBefore-under front p q less)
  | inr same ↦ inr (ap (λ v. front ++ v) same.0, same.1)
]

pub PinBefore-strip : (front p q : List ℕ) (a b : Bit) → PinBefore (front ++ p, a) (front ++ q, b) → PinBefore (p, a) (q, b)
PinBefore-strip front p q a b h = elim h [
  | inl less ↦ inl (PathBefore-strip front p q less)
  | inr same ↦ inr (append_strip front p q same.0, same.1)
]

-- what stands between two places with one front has it too
pub between : (front low high p : List ℕ) (a b c : Bit) → (PinBefore (p, b) (front ++ low, a) → ⊥) → PinBefore (p, b) (front ++ high, c)
    → (rest : List ℕ) × (p ≡ front ++ rest) × (PinBefore (rest, b) (low, a) → ⊥) × PinBefore (rest, b) (high, c)
between [] low high p a b c behind before = (p, refl, behind, before)
between (i ∷ front) low high [] a b c behind before = absurd (behind (inl tt))
between (i ∷ front) low high (j ∷ p) a b c behind before = elim (cases_order j i) [
  | inl same ↦
      let lower : PinBefore (p, b) (front ++ low, a) → ⊥ = λ h. behind (elim h [ inl path ↦ inl (inr (same, path)) | inr one ↦ inr ((λ k. same k ∷ one.0 k), one.1) ]) in
      let upper : PinBefore (p, b) (front ++ high, c) = elim before [
        | inl path ↦ elim path [ inl less ↦ absurd (omega (arith, less, same)) | inr more ↦ inl more.1 ]
        | inr one ↦ inr (tail_is j i p (front ++ high) one.0, one.1)
      ] in
      let more = between front low high p a b c lower upper in
      (more.0, λ k. same k ∷ more.1 k, more.2, more.3)
  | inr apart ↦ elim apart [
    | inl less ↦ absurd (behind (inl (inl less)))
    | inr more ↦ absurd (elim before [
      | inl path ↦ elim path [ inl less ↦ omega (arith, less, more) | inr one ↦ omega (arith, one.0, more) ]
      | inr one ↦ let head : j ≡ i = head_is j i p (front ++ high) one.0 in omega (arith, head, more)
    ])
  ]
]
