-- Lists of nodes that stand in one list, by the places before which they end.
use Rattle.std.proofs.Common.{◌≡◌, ◌-◌, ◌<◌, ℕ, zero, suc, List, [], ◌∷◌, ◌++◌, length, Some, refl, ap, arith, get_or}
use Rattle.std.specs.Prelude.{slice_get}
use Rattle.edif_tree.specs.NodeLists.{last_end, lists_from}
use Rattle.edif_tree.specs.Ranges.{ids_from}

pub count_of_lists : (first : ℕ) (ends : List ℕ) → length (lists_from first ends) ≡ length ends
count_of_lists first [] = refl
count_of_lists first (end ∷ ends) = ap suc (count_of_lists end ends)

-- one list more
pub list_pushed : (first last : ℕ) (ends : List ℕ) → lists_from first (ends ++ last ∷ []) ≡ lists_from first ends ++ ids_from (last_end first ends) (last - last_end first ends) ∷ []
list_pushed first last [] = refl
list_pushed first last (end ∷ ends) = ap (λ v. ids_from first (end - first) ∷ v) (list_pushed end last ends)

pub end_pushed : (first last : ℕ) (ends : List ℕ) → last_end first (ends ++ last ∷ []) ≡ last
end_pushed first last [] = refl
end_pushed first last (end ∷ ends) = end_pushed end last ends

-- the list at a place
pub list_at : (first : ℕ) (ends : List ℕ) (at : ℕ) → at < length ends → slice_get (lists_from first ends) at ≡ Some (ids_from (get_or (first ∷ ends) at 0) (get_or ends at 0 - get_or (first ∷ ends) at 0))
list_at first [] at l = absurd (omega (arith, l))
list_at first (end ∷ ends) zero l = refl
list_at first (end ∷ ends) (suc at) l = list_at end ends at (omega (arith, l))
