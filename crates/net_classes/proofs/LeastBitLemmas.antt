-- The least bit so far of each first net, when one bit more is looked at.
use Rattle.std.proofs.Common.{below_more, [], ◌∷◌, ◌++◌, slice_get, ◌≡◌, ◌<◌, ◌+◌, ℕ, List, length, get_or, sym, ap, subst, ◌∙◌, arith, Some, None, Option}
use Rattle.std.specs.Prelude.{option_and_then}
use Rattle.std.specs.List.{All}
use Rattle.std.proofs.lemmas.Option.{slice_get-get_or}
use Rattle.std.proofs.lemmas.List.{get_or_append_left, get_or_push}
use Rattle.net_classes.specs.LeastBits.{AreSeen, IsLeastAnswer, IsSeen, first_of_bit}

-- at the start nothing is seen
pub seen_start : (first_at : ℕ → Option ℕ) (seen : List (Option ℕ)) → All (λ bit. bit ≡ None) seen → AreSeen first_at 0 seen
seen_start first_at seen none =
    λ first within. subst (λ v. IsSeen first_at 0 first v) (sym (none first None within)) (λ k less has. absurd (omega (arith, less)))

-- the first net of a bit that was read
pub first_of_read : (nets : List (Option ℕ)) (firsts : List ℕ) (number : ℕ) (net : Option ℕ) → number < length nets → net ≡ get_or nets number None
    → first_of_bit nets firsts number ≡ option_and_then (slice_get firsts) net
first_of_read nets firsts number net within is =
    let at : slice_get nets number ≡ Some net = slice_get-get_or nets number None within ∙ ap Some (sym is) in
    ap (λ o. option_and_then (slice_get firsts) (option_and_then (λ answer. answer) o)) at

-- one answer more
pub answers_more : (first_at : ℕ → Option ℕ) (number : ℕ) (least pushed : List (Option ℕ)) (bit : Option ℕ) → length least ≡ number
    → pushed ≡ least ++ bit ∷ [] → IsLeastAnswer first_at (first_at number) bit
    → ((k : ℕ) → k < number → IsLeastAnswer first_at (first_at k) (get_or least k None))
    → (k : ℕ) → k < number + 1 → IsLeastAnswer first_at (first_at k) (get_or pushed k None)
answers_more first_at number least pushed bit long pushed_is here before =
    below_more (λ k. IsLeastAnswer first_at (first_at k) (get_or pushed k None)) number
    (λ k less.
    subst (λ v. IsLeastAnswer first_at (first_at k) v) (sym (ap (λ v. get_or v k None) pushed_is ∙ get_or_append_left least (bit ∷ []) None k (omega (arith, less, long)))) (before k less))
    (subst (λ v. IsLeastAnswer first_at (first_at number) v) (sym (ap (λ v. get_or v number None) pushed_is ∙ get_or_push least bit None number long)) here)
