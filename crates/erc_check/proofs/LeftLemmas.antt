-- The items of a walk, one after another.
use Rattle.std.proofs.Common.{◌≡◌, ◌<◌, List, [], ◌∷◌, ◌++◌, length, true, false, refl, sym, ap, subst, ◌∙◌, arith, append-nil, append_assoc}
use Rattle.netlist_schema.specs.Design.{Design}
use Rattle.flat_spec.specs.Types.{Item}
use Rattle.erc_check.specs.Front.{IsFront}
use Rattle.erc_check.specs.Tally.{AddsAll, AddsNext, IsTally}
use Rattle.erc_check.specs.declared.tally.Tally.{Tally}
use Rattle.erc_check.proofs.FrontLemmas.{shorter}

-- the items in front of those that are left were added
pub record AreAdded (d : Design) (all left : List Item) (old new : Tally) : Type 0 where
  pub items : List Item
  pub whole : all ≡ items ++ left
  pub adds : AddsAll d items old new

pub none_added : (d : Design) (all : List Item) (tally : Tally) → AreAdded d all all tally tally
none_added d all tally = record { items = []; whole = refl; adds = λ seen front t. subst (λ v. IsTally d v tally) (sym (append-nil seen)) t }

pub one_added : (d : Design) (all left rest : List Item) (old mid new : Tally) → AreAdded d all left old mid → AddsNext d left rest mid new true → AreAdded d all rest old new
one_added d all left rest old mid new are next = record {
  items = are.items ++ next.0 ∷ [];
  whole = are.whole ∙ (ap (λ v. are.items ++ v) next.1 ∙ sym (append_assoc are.items (next.0 ∷ []) rest));
  adds = λ seen front t.
      let whole : IsFront d ((seen ++ are.items) ++ next.0 ∷ []) = subst (IsFront d) (sym (append_assoc seen are.items (next.0 ∷ []))) front in
      subst (λ v. IsTally d v new) (append_assoc seen are.items (next.0 ∷ [])) (next.2 (seen ++ are.items) whole (are.adds seen (shorter d (seen ++ are.items) (next.0 ∷ []) whole) t));
}

pub all_added : (d : Design) (all left rest : List Item) (old mid new : Tally) → AreAdded d all left old mid → AddsNext d left rest mid new false → AddsAll d all old new
all_added d all left rest old mid new are next = λ seen front t.
    let whole : are.items ≡ all = sym (are.whole ∙ (ap (λ v. are.items ++ v) next.0 ∙ append-nil are.items)) in
    subst (λ v. IsTally d (seen ++ v) new) whole (subst (λ v. IsTally d (seen ++ are.items) v) (sym next.1) (are.adds seen (subst (λ v. IsFront d (seen ++ v)) (sym whole) front) t))

pub fewer_left : (d : Design) (left rest : List Item) (old new : Tally) → AddsNext d left rest old new true → length rest < length left
fewer_left d left rest old new next = let e = ap length next.1 in omega arith
