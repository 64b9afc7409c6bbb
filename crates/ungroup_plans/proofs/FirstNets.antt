-- The nets whose numbers stand for themselves, taken one by one.
use Rattle.std.proofs.Common.{◌≡◌, ◌+◌, ℕ, List, [], ◌∷◌, ◌++◌, Bool, true, false, Some, append_assoc, ap, cond, drop, filter, map, slice_get, sym, ◌∙◌}
use Rattle.std.specs.List.{enumerate_from}
use Rattle.netlist_schema.specs.Types.{End, Net}
use Rattle.netlist_schema.proofs.Lists.{drop_next}
use Rattle.ungroup_plans.specs.Grouped.{is_first, with_list}

module _ (behind : ℕ) (heads : List ℕ) (lists : List (List End)) (nets : List Net) where
  -- those from a place on
  abbrev pub left : ℕ → List Net
  left place = map (with_list behind lists) (filter (is_first behind heads) (enumerate_from place (drop place nets)))

  split : (place : ℕ) (net : Net) → slice_get nets place ≡ Some net
      → left place ≡ map (with_list behind lists) (cond (is_first behind heads (place, net)) ((place, net) ∷ filter (is_first behind heads) (enumerate_from (place + 1) (drop (place + 1) nets))) (filter (is_first behind heads) (enumerate_from (place + 1) (drop (place + 1) nets))))
  split place net at =
      ap (λ (l : List Net). map (with_list behind lists) (filter (is_first behind heads) (enumerate_from place l))) (drop_next nets place net at)

  -- one that stands for itself is taken
  pub first_taken : (place : ℕ) (net : Net) (made taken all : List Net) → slice_get nets place ≡ Some net → is_first behind heads (place, net) ≡ true
      → taken ≡ made ++ with_list behind lists (place, net) ∷ [] → made ++ left place ≡ all → taken ++ left (place + 1) ≡ all
  first_taken place net made taken all at is more so_far =
      ap (λ (l : List Net). l ++ left (place + 1)) more ∙ append_assoc made (with_list behind lists (place, net) ∷ []) (left (place + 1))
      ∙ ap (λ (l : List Net). made ++ l)
      (sym (split place net at ∙ ap (λ (b : Bool). map (with_list behind lists) (cond b ((place, net) ∷ filter (is_first behind heads) (enumerate_from (place + 1) (drop (place + 1) nets))) (filter (is_first behind heads) (enumerate_from (place + 1) (drop (place + 1) nets))))) is))
      ∙ so_far

  -- another one is passed over
  pub other_passed : (place : ℕ) (net : Net) (made same all : List Net) → slice_get nets place ≡ Some net → is_first behind heads (place, net) ≡ false
      → same ≡ made → made ++ left place ≡ all → same ++ left (place + 1) ≡ all
  other_passed place net made same all at is stays so_far =
      ap (λ (l : List Net). l ++ left (place + 1)) stays
      ∙ ap (λ (l : List Net). made ++ l)
      (sym (split place net at ∙ ap (λ (b : Bool). map (with_list behind lists) (cond b ((place, net) ∷ filter (is_first behind heads) (enumerate_from (place + 1) (drop (place + 1) nets))) (filter (is_first behind heads) (enumerate_from (place + 1) (drop (place + 1) nets))))) is))
      ∙ so_far
