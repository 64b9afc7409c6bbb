-- What is listed so far, and what is left, when a loop has gone on by one.
use Rattle.std.proofs.Common.{◌≡◌, ◌<◌, ◌+◌, ℕ, List, ◌∷◌, ◌++◌, length, get_or, drop, sym, ap, ◌∙◌, append_assoc}
use Rattle.std.proofs.lemmas.List.{drop_more}

-- the first of what is left of a list, and the others
pub drop-first : {A : Type 0} (xs : List A) (i : ℕ) (x : A) → i < length xs → x ≡ get_or xs i x → drop i xs ≡ x ∷ drop (i + 1) xs
drop-first xs i x within is = drop_more xs i x within ∙ ap (λ v. v ∷ drop (i + 1) xs) (sym is)

-- one part more
pub part_more : {B : Type 0} (part rest found added whole : List B) → added ≡ found ++ part → found ++ (part ++ rest) ≡ whole → added ++ rest ≡ whole
part_more part rest found added whole added_is so_far = ap (λ v. v ++ rest) added_is ∙ append_assoc found part rest ∙ so_far
