-- What stands in a row from a place on.
use Rattle.std.proofs.Common.{◌≡◌, ◌+◌, ◌≤◌, ℕ, suc, List, [], ◌∷◌, ◌++◌, length, take, drop, add-one, Some, slice_get, refl, sym, ap, ◌∙◌}
use Rattle.std.proofs.lemmas.List.{drop-drop, drop-append-le}
use Rattle.netlist_pages.specs.Pages.{before, listed}
use Rattle.netlist_pages.proofs.PageLemmas.{listed_cut}

module _ {T : Type 0} where
  front_dropped : (xs ys : List T) → drop (length xs) (xs ++ ys) ≡ ys
  front_dropped [] ys = refl
  front_dropped (x ∷ xs) ys = front_dropped xs ys

  -- from an item of a page on: the rest of that page, and the pages behind it
  pub rest_at : (pages : List (List T)) (i at place : ℕ) (p : List T) → slice_get pages i ≡ Some p → at ≤ length p → place ≡ before pages i + at → drop place (listed pages) ≡ drop at p ++ listed (drop (i + 1) pages)
  rest_at pages i at place p found within sum =
      let front = listed (take i pages) in
      let rest = listed (drop (suc i) pages) in
      let next : rest ≡ listed (drop (i + 1) pages) = ap (λ (n : ℕ). listed (drop n pages)) (sym (add-one i)) in
      ap (drop place) (listed_cut pages i p found)
      ∙ ap (λ (n : ℕ). drop n (front ++ (p ++ rest))) sum
      ∙ sym (drop-drop at (length front) (front ++ (p ++ rest)))
      ∙ ap (drop at) (front_dropped front (p ++ rest))
      ∙ drop-append-le at p rest within
      ∙ ap (λ (l : List T). drop at p ++ l) next
