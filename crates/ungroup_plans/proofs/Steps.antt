-- What is listed so far, and what is left, when a loop has gone on by one.
use Rattle.std.proofs.Common.{◌≡◌, ◌<◌, ◌+◌, ℕ, List, ◌∷◌, length, get_or, drop, sym, ap, ◌∙◌}
use Rattle.std.proofs.lemmas.List.{drop_more}

-- the first of what is left of a list, and the others
pub drop_first : {A : Type 0} (xs : List A) (i : ℕ) (x : A) → i < length xs → x ≡ get_or xs i x → drop i xs ≡ x ∷ drop (i + 1) xs
drop_first xs i x within is = drop_more xs i x within ∙ ap (λ v. v ∷ drop (i + 1) xs) (sym is)
