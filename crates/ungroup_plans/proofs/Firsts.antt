-- The first items of a list, taken one by one.
use Rattle.std.proofs.Common.{◌≡◌, ◌+◌, ◌-◌, ◌<◌, ◌≤◌, ℕ, zero, suc, arith, List, [], ◌∷◌, ◌++◌, length, length-append, take, append_assoc, refl, sym, ap, ◌∙◌}
use Rattle.std.proofs.lemmas.List.{append-nil}

take_none : {A : Type 0} (k : ℕ) (none : List A) → none ≡ [] → take k none ≡ []
take_none zero none gone = refl
take_none (suc k) [] gone = refl
take_none (suc k) (x ∷ xs) gone = absurd (cc gone)

pub first_none : {A : Type 0} (made left whole : List A) (n : ℕ) → made ≡ [] → left ≡ whole → made ++ take (n - length made) left ≡ take n whole
first_none {A} made left whole n none all =
    let zero : n - length made ≡ n = omega (arith, ap length none) in
    ap (λ (v : List A). v ++ take (n - length made) left) none ∙ (λ i. take (zero i) (all i))

pub first_more : {A : Type 0} (made added left rest whole : List A) (x : A) (n : ℕ) → length made < n → left ≡ x ∷ rest → added ≡ made ++ x ∷ []
    → made ++ take (n - length made) left ≡ whole → added ++ take (n - length added) rest ≡ whole
first_more {A} made added left rest whole x n less is added_is so_far =
    let k = n - length added in
    let longer = ap length added_is ∙ length-append made (x ∷ []) in
    let count : n - length made ≡ suc k = omega (arith, less, longer) in
    let opened : take (n - length made) left ≡ x ∷ take k rest = ap (take (n - length made)) is ∙ ap (λ (m : ℕ). take m (x ∷ rest)) count in
    ap (λ (v : List A). v ++ take k rest) added_is ∙ append_assoc made (x ∷ []) (take k rest) ∙ ap (λ (v : List A). made ++ v) (sym opened) ∙ so_far

pub first_full : {A : Type 0} (made left whole : List A) (n : ℕ) → n ≤ length made → made ++ take (n - length made) left ≡ whole → made ≡ whole
first_full made left whole n full so_far =
    let none : n - length made ≡ 0 = omega (arith, full) in
    sym (append-nil made) ∙ ap (λ (m : ℕ). made ++ take m left) (sym none) ∙ so_far

pub first_gone : {A : Type 0} (made left whole : List A) (n : ℕ) → left ≡ [] → made ++ take (n - length made) left ≡ whole → made ≡ whole
first_gone {A} made left whole n gone so_far =
    let k = n - length made in
    sym (append-nil made) ∙ ap (λ (v : List A). made ++ v) (sym (take_none k left gone)) ∙ so_far
