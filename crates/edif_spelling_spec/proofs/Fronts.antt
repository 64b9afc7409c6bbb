-- What is a word or a row of codes at length is one in its front too.
use Rattle.std.proofs.Common.{◌≡◌, ℕ, zero, suc, ◌<◌, ◌≤◌, true, ◌⊎◌, List, [], ◌∷◌, ◌++◌, length, refl, sym, ap, ◌∙◌, subst, arith, inl, inr, ⊎_elim, append-nil, ℤ, pos, neg_ℤ}
use Rattle.std.proofs.Math.Seq.{take-append_seam}
use Rattle.std.proofs.lemmas.List.Sums.{AllPass-from_list_all, list_all-from_AllPass}
use Rattle.std.proofs.lemmas.Str.Parse.{tells_digits, digits_value-take-le}
use Rattle.std.specs.List.{list_all}
use Rattle.std.specs.Prelude.{FitsSigned}
use Rattle.std.specs.Int.{w64}
use Rattle.std.specs.Str.Parse.{AllDigits, IsNumeral, digits_value}
use Rattle.netlist_schema.specs.Ident.{is_identifier_byte, IsIdentifier}
use Rattle.edif_spelling_spec.specs.Bytes.{is_space}
use Rattle.edif_spelling_spec.specs.Grammar.{BeginsWithNoDigit, SpellsName, SpellsInteger, EndsCode, IsCodes}
use Rattle.edif_spelling_spec.proofs.FaultLemmas.{all_parts}

-- of two ways to cut one list, the first front ends within the second one, or goes on behind it
pub cut : (xs ys us vs : List ℕ) → xs ++ ys ≡ us ++ vs → ((k : List ℕ) × (us ≡ xs ++ k)) ⊎ ((k : List ℕ) × (xs ≡ us ++ k) × (vs ≡ k ++ ys))
cut [] ys us vs e = inl (us, refl)
cut (x ∷ xs) ys [] vs e = inr (x ∷ xs, refl, sym e)
cut (x ∷ xs) ys (u ∷ us) vs e =
    let head : x ≡ u = cc e in
    let tail : xs ++ ys ≡ us ++ vs = cc e in
    ⊎_elim
    (λ l. inl (l.0, ap (λ a. a ∷ us) (sym head) ∙ ap (λ v. x ∷ v) l.1))
    (λ r. inr (r.0, ap (λ a. a ∷ xs) head ∙ ap (λ v. u ∷ v) r.1, r.2))
    (cut xs ys us vs tail)

-- names
identifier_front : (b : ℕ) (bs run : List ℕ) → IsIdentifier ((b ∷ bs) ++ run) → IsIdentifier (b ∷ bs)
identifier_front b bs run h = (omega arith, AllPass-from_list_all is_identifier_byte (b ∷ bs) (all_parts is_identifier_byte (b ∷ bs) run (list_all-from_AllPass is_identifier_byte ((b ∷ bs) ++ run) h.1)).0)

marked_front : (b : ℕ) (bs run name : List ℕ) → (b ∷ bs ≡ 38 ∷ [] → ⊥) → IsIdentifier name → b ≡ 38 → bs ++ run ≡ name → (n : List ℕ) × SpellsName (b ∷ bs) n
marked_front b [] run name lone h head tail = absurd (lone (ap (λ x. x ∷ []) head))
marked_front b (c ∷ cs) run name lone h head tail = (c ∷ cs, (identifier_front c cs run (subst IsIdentifier (sym tail) h), inl (ap (λ x. x ∷ c ∷ cs) head)))

pub name_front : (word run name : List ℕ) → 0 < length word → (word ≡ 38 ∷ [] → ⊥) → SpellsName (word ++ run) name → (n : List ℕ) × SpellsName word n
name_front [] run name l lone h = absurd (omega arith)
name_front (b ∷ bs) run name l lone h = ⊎_elim
    (λ marked.
    let head : b ≡ 38 = cc marked in
    let tail : bs ++ run ≡ name = cc marked in marked_front b bs run name lone h.0 head tail)
    (λ plain.
    let first : BeginsWithNoDigit ((b ∷ bs) ++ run) = subst BeginsWithNoDigit (sym plain.0) plain.1 in
    (b ∷ bs, (identifier_front b bs run (subst IsIdentifier (sym plain.0) h.0), inr (refl, first))))
    h.1

-- integers
digits_front : (ds run : List ℕ) → AllDigits 10 (ds ++ run) → AllDigits 10 ds
digits_front [] run h = tt
digits_front (c ∷ cs) run h = let p = tells_digits.parts c (cs ++ run) h in tells_digits.more c cs p.0 (digits_front cs run p.1)

numeral_front : (c : ℕ) (cs run : List ℕ) → IsNumeral 10 ((c ∷ cs) ++ run) → IsNumeral 10 (c ∷ cs)
numeral_front c cs run h = (omega arith, digits_front (c ∷ cs) run h.1)

value_front : (ds run : List ℕ) → digits_value 10 ds ≤ digits_value 10 (ds ++ run)
value_front ds run =
    let L : List ℕ → Type 0 = λ x. digits_value 10 x ≤ digits_value 10 (ds ++ run) in
    subst L (take-append_seam ds run) (digits_value-take-le 10 (ds ++ run) (length ds) (omega arith))

fits_less : (v w : ℕ) → v ≤ w → FitsSigned w64 (pos w) → FitsSigned w64 (pos v)
fits_less v w l h = record { sfits = let top = h.sfits in omega arith }

fits_minus : (v w : ℕ) → v ≤ w → FitsSigned w64 (neg_ℤ (pos w)) → FitsSigned w64 (neg_ℤ (pos v))
fits_minus zero w l h = record { sfits = omega arith }
fits_minus (suc v) zero l h = absurd (omega arith)
fits_minus (suc v) (suc w) l h = record { sfits = let top = h.sfits in omega arith }

-- an integer's digits, where they go on
plus_front : (spelling digits run : List ℕ) → ((spelling ≡ digits) ⊎ (spelling ≡ 43 ∷ digits)) → 0 < length digits → IsNumeral 10 (digits ++ run) → FitsSigned w64 (pos (digits_value 10 (digits ++ run))) → (n : ℤ) × SpellsInteger spelling n
plus_front spelling [] run s l h fits = absurd (omega arith)
plus_front spelling (c ∷ cs) run s l h fits = (
  pos (digits_value 10 (c ∷ cs)),
  (fits_less (digits_value 10 (c ∷ cs)) (digits_value 10 ((c ∷ cs) ++ run)) (value_front (c ∷ cs) run) fits, (c ∷ cs, numeral_front c cs run h, inl (s, refl))),
)

minus_front : (digits run : List ℕ) → 0 < length digits → IsNumeral 10 (digits ++ run) → FitsSigned w64 (neg_ℤ (pos (digits_value 10 (digits ++ run)))) → (n : ℤ) × SpellsInteger (45 ∷ digits) n
minus_front [] run l h fits = absurd (omega arith)
minus_front (c ∷ cs) run l h fits = (
  neg_ℤ (pos (digits_value 10 (c ∷ cs))),
  (fits_minus (digits_value 10 (c ∷ cs)) (digits_value 10 ((c ∷ cs) ++ run)) (value_front (c ∷ cs) run) fits, (c ∷ cs, numeral_front c cs run h, inr (refl, refl))),
)

-- a sign goes on to its digits
filled : (sign : ℕ) (bs : List ℕ) → (sign ∷ bs ≡ sign ∷ [] → ⊥) → 0 < length bs
filled sign [] lone = absurd (lone refl)
filled sign (b ∷ bs) lone = omega arith

abbrev SpellsSome : List ℕ → Type 0
SpellsSome word = (n : ℤ) × SpellsInteger word n

pub integer_front : (word run : List ℕ) (n : ℤ) → 0 < length word → (word ≡ 43 ∷ [] → ⊥) → (word ≡ 45 ∷ [] → ⊥) → SpellsInteger (word ++ run) n → (m : ℤ) × SpellsInteger word m
integer_front [] run n l plus minus h = absurd (omega arith)
integer_front (b ∷ bs) run n l plus minus h =
    let N : List ℕ → Type 0 = λ x. IsNumeral 10 x in
    let F : ℤ → Type 0 = λ x. FitsSigned w64 x in
    let digits : List ℕ = h.1.0 in
    ⊎_elim
    (λ p.
    let fits : FitsSigned w64 (pos (digits_value 10 digits)) = subst F p.1 h.0 in
    let P : List ℕ → Type 0 = λ x. FitsSigned w64 (pos (digits_value 10 x)) in
    ⊎_elim
    (λ none. plus_front (b ∷ bs) (b ∷ bs) run (inl refl) l (subst N (sym none) h.1.1) (subst P (sym none) fits))
    (λ sign.
    let head : b ≡ 43 = cc sign in
    let tail : bs ++ run ≡ digits = cc sign in
    let some : 0 < length bs = filled b bs (λ e. plus (e ∙ ap (λ x. x ∷ []) head)) in
    plus_front (b ∷ bs) bs run (inr (ap (λ x. x ∷ bs) head)) some (subst N (sym tail) h.1.1) (subst P (sym tail) fits))
    p.0)
    (λ m.
    let fits : FitsSigned w64 (neg_ℤ (pos (digits_value 10 digits))) = subst F m.1 h.0 in
    let P : List ℕ → Type 0 = λ x. FitsSigned w64 (neg_ℤ (pos (digits_value 10 x))) in
    let head : b ≡ 45 = cc (m.0) in
    let tail : bs ++ run ≡ digits = cc (m.0) in
    let some : 0 < length bs = filled b bs (λ e. minus (e ∙ ap (λ x. x ∷ []) head)) in
    subst SpellsSome (ap (λ x. x ∷ bs) (sym head)) (minus_front bs run some (subst N (sym tail) h.1.1) (subst P (sym tail) fits)))
    h.1.2

-- rows of codes
abbrev SomeCodes : List ℕ → Type 0
SomeCodes escape = (codes : List ℕ) × IsCodes escape codes

ends_front : (j r : List ℕ) → EndsCode (j ++ r) → EndsCode j
ends_front [] r h = tt
ends_front (c ∷ cs) r h = h

-- a code that is cut, or none of it
cut_code : (e gap k j digits : List ℕ) → e ≡ gap ++ k → list_all is_space gap ≡ true → digits ≡ k ++ j → IsNumeral 10 digits → digits_value 10 digits ≤ 255 → SomeCodes e
cut_code e gap [] j digits whole white d numeral small = ([], ap (list_all is_space) (whole ∙ append-nil gap) ∙ white)
cut_code e gap (c ∷ cs) j digits whole white d numeral small =
    let N : List ℕ → Type 0 = λ x. IsNumeral 10 x in
    let less = value_front (c ∷ cs) j in
    let value : digits_value 10 digits ≡ digits_value 10 ((c ∷ cs) ++ j) = ap (digits_value 10) d in (
      digits_value 10 (c ∷ cs) ∷ [],
      (gap, c ∷ cs, [], whole ∙ ap (λ v. gap ++ v) (sym (append-nil (c ∷ cs))), white, numeral_front c cs j (subst N d numeral), refl, omega arith, tt, refl),
    )

pub codes_front : (codes e r : List ℕ) → IsCodes (e ++ r) codes → (some : List ℕ) × IsCodes e some
codes_front [] e r h = ([], (all_parts is_space e r h).0)
codes_front (code ∷ codes) e r h =
    let gap : List ℕ = h.0 in
    let digits : List ℕ = h.1 in
    let rest : List ℕ = h.2 in
    let value : code ≡ digits_value 10 digits = h.6 in
    let small : code ≤ 255 = h.7 in
    let white : list_all is_space gap ≡ true = h.4 in
    ⊎_elim
    (λ inside. ([], (all_parts is_space e inside.0 (ap (list_all is_space) (sym inside.1) ∙ white)).0))
    (λ beyond. ⊎_elim
    (λ within. cut_code e gap beyond.0 within.0 digits beyond.1 white within.1 h.5 (omega arith))
    (λ past.
    let R : List ℕ → Type 0 = λ x. IsCodes x codes in
    let inner = codes_front codes past.0 r (subst R past.2 h.9) in
    (code ∷ inner.0, (gap, digits, past.0, beyond.1 ∙ ap (λ v. gap ++ v) past.1, white, h.5, value, small, ends_front past.0 r (subst EndsCode past.2 h.8), inner.1)))
    (cut beyond.0 r digits rest (sym beyond.2)))
    (cut e r gap (digits ++ rest) h.3)
