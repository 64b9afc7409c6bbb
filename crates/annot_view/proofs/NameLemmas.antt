-- Lists that are equal one by one.
use Rattle.std.proofs.Common.{◌≡◌, List, [], ◌∷◌, map, length, refl, ap, Bool, arith}
use Rattle.std.specs.Prelude.{◌&&◌}
use Rattle.std.specs.List.{list_all, zip}
use Rattle.std.specs.Borrow.{Bor}
use Rattle.std.specs.Cmp.Lexicographic.{pointwise}
use Rattle.netlist_schema.specs.Types.{Inst}
use Rattle.annot_view.specs.Lent.{lent, lent_names}

-- all pairs pass, where the lists are of one length
pub list_all-zip : {A B C : Type 0} (E : A → B → Bool) (f : C → B) (xs : List A) (ys : List C) → length xs ≡ length ys
    → list_all (λ (p : A × C). E p.0 (f p.1)) (zip xs ys) ≡ pointwise E xs (map f ys)
list_all-zip E f [] [] same = refl
list_all-zip E f [] (y ∷ ys) same = absurd (omega arith)
list_all-zip E f (x ∷ xs) [] same = absurd (omega arith)
list_all-zip E f (x ∷ xs) (y ∷ ys) same = ap (λ rest. E x (f y) && rest) (list_all-zip E f xs ys (omega arith))

-- the identifiers of lent instances are those of the instances
pub map-lent : (insts : List (Bor Inst)) → map (λ (inst : Inst). inst.name.id) (lent insts) ≡ lent_names insts
map-lent [] = refl
map-lent (inst ∷ insts) = ap (λ rest. inst.now.name.id ∷ rest) (map-lent insts)
