-- What is listed so far, and what is left, when a loop has gone on by one.
use Rattle.std.proofs.Common.{◌≡◌, ◌<◌, ◌≤◌, ◌+◌, ◌-◌, ℕ, suc, List, [], ◌∷◌, ◌++◌, length, get_or, drop, sym, ap, ◌∙◌, arith, append_assoc, append-nil}
use Rattle.std.specs.List.{flat_map, range_with_len}
use Rattle.std.proofs.lemmas.List.{drop_more, drop_all}

-- the first of what is left of a list, and the others
pub drop-first : {A : Type 0} (xs : List A) (i : ℕ) (x : A) → i < length xs → x ≡ get_or xs i x → drop i xs ≡ x ∷ drop (i + 1) xs
drop-first xs i x within is = drop_more xs i x within ∙ ap (λ v. v ∷ drop (i + 1) xs) (sym is)

-- the first of the numbers that are left, and the others
pub range-first : (n count : ℕ) → n < count → range_with_len n (count - n) ≡ n ∷ range_with_len (n + 1) (count - (n + 1))
range-first n count h = let more : count - n ≡ suc (count - (n + 1)) = omega arith in ap (range_with_len n) more

-- one part more
pub part_more : {B : Type 0} (part rest found added whole : List B) → added ≡ found ++ part → found ++ (part ++ rest) ≡ whole → added ++ rest ≡ whole
part_more part rest found added whole added_is so_far = ap (λ v. v ++ rest) added_is ∙ append_assoc found part rest ∙ so_far

-- one element more of a list that is made of numbers in turn
pub number_more : {B : Type 0} (make : List ℕ → List B) (f : ℕ → B) → ((x : ℕ) (xs : List ℕ) → make (x ∷ xs) ≡ f x ∷ make xs)
    → (n count : ℕ) (found pushed whole : List B) → n < count → pushed ≡ found ++ f n ∷ [] → found ++ make (range_with_len n (count - n)) ≡ whole
    → pushed ++ make (range_with_len (n + 1) (count - (n + 1))) ≡ whole
number_more make f each n count found pushed whole less pushed_is so_far =
    let rest = make (range_with_len (n + 1) (count - (n + 1))) in
    let opened : make (range_with_len n (count - n)) ≡ f n ∷ rest =
    ap make (range-first n count less) ∙ each n (range_with_len (n + 1) (count - (n + 1))) in
    part_more (f n ∷ []) rest found pushed whole pushed_is (sym (ap (λ v. found ++ v) opened) ∙ so_far)

-- one element's part more
pub piece_more : {A B : Type 0} (f : A → List B) (xs : List A) (i : ℕ) (x : A) (found added whole : List B) → i < length xs → x ≡ get_or xs i x
    → added ≡ found ++ f x → found ++ flat_map f (drop i xs) ≡ whole → added ++ flat_map f (drop (i + 1) xs) ≡ whole
piece_more f xs i x found added whole within is added_is so_far =
    let opened : flat_map f (drop i xs) ≡ f x ++ flat_map f (drop (i + 1) xs) = ap (flat_map f) (drop-first xs i x within is) in
    part_more (f x) (flat_map f (drop (i + 1) xs)) found added whole added_is (sym (ap (λ v. found ++ v) opened) ∙ so_far)

-- nothing is left
pub all_found : {A B : Type 0} (rest : List A → List B) → rest [] ≡ [] → (xs : List A) (i : ℕ) (found whole : List B) → length xs ≤ i
    → found ++ rest (drop i xs) ≡ whole → found ≡ whole
all_found rest none xs i found whole past so_far =
    sym (append-nil found) ∙ ap (λ v. found ++ v) (sym (ap rest (drop_all i xs past) ∙ none)) ∙ so_far
