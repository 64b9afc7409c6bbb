-- The names of the nets of an array differ, and lead back to the array's.
use Rattle.std.proofs.Common.{◌≡◌, ℕ, ◌+◌, ◌<◌, ◌-◌, List, [], ◌∷◌, ◌++◌, take, length, refl, ap, sym, ◌∙◌, Bool, true, false, Some, None, arith, length-append}
use Rattle.std.specs.Prelude.{decimal, cond, unwrap_or}
use Rattle.std.proofs.lemmas.Fmt.{decimal_injective, decimal_digit}
use Rattle.netlist_bus_spec.specs.Members.{displayed, member_id, member_text, member_name}
use Rattle.netlist_bus_spec.specs.Runs.{array_name, stem}
use Rattle.netlist_bus_spec.specs.Same.{same_bytes}
use Rattle.netlist_bus_spec.proofs.Tests.{bytes_tell}

-- equal ends of texts
pub left_same : (a x y : List ℕ) → a ++ x ≡ a ++ y → x ≡ y
left_same [] x y e = e
left_same (b ∷ a) x y e = let d : a ++ x ≡ a ++ y = cc e in left_same a x y d

no_end : (y : List ℕ) (c : ℕ) → [] ≡ y ++ c ∷ [] → ⊥
no_end [] c e = absurd (cc e)
no_end (b ∷ y) c e = absurd (cc e)

right_same : (x y : List ℕ) (c : ℕ) → x ++ c ∷ [] ≡ y ++ c ∷ [] → x ≡ y
right_same [] [] c e = refl
right_same [] (b ∷ y) c e = let d : [] ≡ y ++ c ∷ [] = cc e in absurd (no_end y c d)
right_same (a ∷ x) [] c e = let d : x ++ c ∷ [] ≡ [] = cc e in absurd (no_end x c (sym d))
right_same (a ∷ x) (b ∷ y) c e = let d : x ++ c ∷ [] ≡ y ++ c ∷ [] = cc e in let h : a ≡ b = cc e in let r : x ≡ y = right_same x y c d in cc

pub member_ids_differ : (d : List ℕ) (j k : ℕ) → j < 65536 → k < 65536 → member_id d j ≡ member_id d k → j ≡ k
member_ids_differ d j k a b e =
    let f : 95 ∷ (decimal j ++ 95 ∷ []) ≡ 95 ∷ (decimal k ++ 95 ∷ []) = left_same d (95 ∷ (decimal j ++ 95 ∷ [])) (95 ∷ (decimal k ++ 95 ∷ [])) e in
    let g : decimal j ++ 95 ∷ [] ≡ decimal k ++ 95 ∷ [] = cc f in
    decimal_injective j k (omega (arith, a)) (omega (arith, b)) (right_same (decimal j) (decimal k) 95 g)

-- the stem of the first member
take_front : (x y : List ℕ) → take (length x) (x ++ y) ≡ x
take_front [] y = refl
take_front (a ∷ x) y = ap (λ v. a ∷ v) (take_front x y)

stem_of : (x : List ℕ) (a b c : ℕ) → stem (x ++ a ∷ b ∷ c ∷ []) ≡ x
stem_of x a b c =
    let n : length (x ++ a ∷ b ∷ c ∷ []) ≡ length x + 3 = length-append x (a ∷ b ∷ c ∷ []) in
    let m : length (x ++ a ∷ b ∷ c ∷ []) - 3 ≡ length x = omega (arith, n) in
    ap (λ v. take v (x ++ a ∷ b ∷ c ∷ [])) m ∙ take_front x (a ∷ b ∷ c ∷ [])

pub stem_of_id : (d : List ℕ) → stem (member_id d 0) ≡ d
stem_of_id d = ap (λ v. stem (d ++ (95 ∷ (v ++ 95 ∷ [])))) (decimal_digit 0 (omega arith)) ∙ stem_of d 95 48 95

pub stem_of_text : (t : List ℕ) → stem (member_text t 0) ≡ t
stem_of_text t = ap (λ v. stem (t ++ (91 ∷ (v ++ 93 ∷ [])))) (decimal_digit 0 (omega arith)) ∙ stem_of t 91 48 93

-- what an array's name displays
pub array_displays : (d t : List ℕ) → displayed (array_name d t) ≡ t
array_displays d t = by (same_bytes d t) refl
  where
    by : (b : Bool) → same_bytes d t ≡ b → unwrap_or (cond b None (Some t)) d ≡ t
    by true e = (bytes_tell d t).0 e
    by false e = refl

pub array_member : (d t : List ℕ) (k : ℕ) → member_name (array_name d t) k ≡ record { id = member_id d k; shown = Some (member_text t k) }
array_member d t k = λ j. record { id = member_id d k; shown = Some (member_text (array_displays d t j) k) }
