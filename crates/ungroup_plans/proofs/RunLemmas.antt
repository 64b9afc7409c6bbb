-- What is listed so far, and what is left, when a loop has gone on by one.
use Rattle.std.proofs.Common.{◌≡◌, ◌<◌, ◌+◌, ℕ, List, ◌∷◌, ◌++◌, length, get_or, drop, sym, ap, ◌∙◌, append_assoc, Option, Some, None, refl}
use Rattle.std.specs.Prelude.{option_to_list}
use Rattle.std.specs.List.{cons_option, filter_map}
use Rattle.std.proofs.lemmas.List.{drop_more}

-- the first of what is left of a list, and the others
pub drop_first : {A : Type 0} (xs : List A) (i : ℕ) (x : A) → i < length xs → x ≡ get_or xs i x → drop i xs ≡ x ∷ drop (i + 1) xs
drop_first xs i x within is = drop_more xs i x within ∙ ap (λ v. v ∷ drop (i + 1) xs) (sym is)

-- one part more, where what is left of the list begins with this part
pub part_more : {A B : Type 0} (rest : List A → List B) (xs : List A) (i : ℕ) (x : A) (part found added whole : List B) → i < length xs → x ≡ get_or xs i x
    → rest (x ∷ drop (i + 1) xs) ≡ part ++ rest (drop (i + 1) xs) → added ≡ found ++ part → found ++ rest (drop i xs) ≡ whole → added ++ rest (drop (i + 1) xs) ≡ whole
part_more rest xs i x part found added whole within is opens added_is so_far =
    ap (λ v. v ++ rest (drop (i + 1) xs)) added_is ∙ append_assoc found part (rest (drop (i + 1) xs))
    ∙ ap (λ v. found ++ v) (sym (ap rest (drop_first xs i x within is) ∙ opens)) ∙ so_far

-- one element more of those that give something
pub given_more : {A B : Type 0} (f : A → Option B) (xs : List A) (i : ℕ) (x : A) (found added whole : List B) → i < length xs → x ≡ get_or xs i x → added ≡ found ++ option_to_list (f x)
    → found ++ filter_map f (drop i xs) ≡ whole → added ++ filter_map f (drop (i + 1) xs) ≡ whole
given_more {A} {B} f xs i x found added whole within is added_is so_far =
    part_more (filter_map f) xs i x (option_to_list (f x)) found added whole within is (opens (f x)) added_is so_far
  where
    opens : (o : Option B) → cons_option o (filter_map f (drop (i + 1) xs)) ≡ option_to_list o ++ filter_map f (drop (i + 1) xs)
    opens None = refl
    opens (Some y) = refl
