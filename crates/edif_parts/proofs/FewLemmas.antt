-- What a reference means among a few names.
use Rattle.std.proofs.Common.{◌≡◌, ℕ, suc, ◌+◌, ◌&&◌, Bool, true, false, cond, List, [], ◌∷◌, Option, None, Some, refl, sym, ap, ◌∙◌, subst, nat_eq, arith}
use Rattle.std.specs.Prelude.{option_map}
use Rattle.std.specs.List.{count_by}
use Rattle.std.specs.Cmp.Lexicographic.{pointwise}
use Rattle.std.proofs.lemmas.Bool.Decides.{nat_tests}
use Rattle.std.proofs.lemmas.List.Sums.{sum_by-cons}
use Rattle.edif_spec.specs.Keyword.{same}
use Rattle.edif_spec.specs.Means.{equal, equal_or, first_place, meant, only_place}
use Rattle.edif_spec.specs.Means as edif
use Rattle.edif_names.specs.declared.scope.Meant.TheVariants as answers
use Rattle.edif_parts.specs.FewNames.{first_from, one_passes}
use Rattle.edif_parts.specs.Names.{DefinesName, Tells}

-- the first place, from a place on
first_on : (i : ℕ) (p : List ℕ → Bool) (ns : List (List ℕ)) → first_from i p ns ≡ option_map (λ j. i + j) (first_place p ns)
first_on i p [] = refl
first_on i p (n ∷ ns) = by (p n) (first_on (suc i) p ns)
  where
    on : (o : Option ℕ) → option_map (λ j. suc i + j) o ≡ option_map (λ j. i + j) (option_map (λ j. suc j) o)
    on None = refl
    on (Some j) = ap Some (let e : suc i + j ≡ i + suc j = omega arith in e)

    by : (b : Bool) → first_from (suc i) p ns ≡ option_map (λ j. suc i + j) (first_place p ns)
        → cond b (Some i) (first_from (suc i) p ns) ≡ option_map (λ j. i + j) (cond b (Some 0) (option_map (λ j. suc j) (first_place p ns)))
    by true h = ap Some (let e : i ≡ i + 0 = omega arith in e)
    by false h = h ∙ on (first_place p ns)

pub first_is : (p : List ℕ → Bool) (ns : List (List ℕ)) → first_from 0 p ns ≡ first_place p ns
first_is p ns = first_on 0 p ns ∙ same_as (first_place p ns)
  where
    same_as : (o : Option ℕ) → option_map (λ j. 0 + j) o ≡ o
    same_as None = refl
    same_as (Some j) = ap Some (let e : 0 + j ≡ j = omega arith in e)

-- the same of tests that are the same
first_alike : (p q : List ℕ → Bool) → ((n : List ℕ) → p n ≡ q n) → (i : ℕ) (ns : List (List ℕ)) → first_from i p ns ≡ first_from i q ns
first_alike p q h i [] = refl
first_alike p q h i (n ∷ ns) = ap (λ b. cond b (Some i) (first_from (suc i) p ns)) (h n) ∙ ap (λ v. cond (q n) (Some i) v) (first_alike p q h (suc i) ns)

tests_alike : (a b : List ℕ) → pointwise nat_eq a b ≡ equal a b
tests_alike [] [] = refl
tests_alike [] (y ∷ b) = refl
tests_alike (x ∷ a) [] = refl
tests_alike (x ∷ a) (y ∷ b) = ap (λ v. nat_eq x y && v) (tests_alike a b)

-- the place of the equal name
pub equal_is : (name : List ℕ) (ns : List (List ℕ)) → first_from 0 (pointwise nat_eq name) ns ≡ first_place (equal name) ns
equal_is name ns = first_alike (pointwise nat_eq name) (equal name) (tests_alike name) 0 ns ∙ first_is (equal name) ns

-- one alone passes where they count one
one_is_from : (seen : Bool) (p : List ℕ → Bool) (ns : List (List ℕ)) → one_passes seen p ns ≡ nat_eq (cond seen 1 0 + count_by p ns) 1
one_is_from true p [] = refl
one_is_from false p [] = refl
one_is_from seen p (n ∷ ns) = by (p n) seen (one_is_from seen p ns) (one_is_from true p ns) ∙ ap (λ v. nat_eq (cond seen 1 0 + v) 1) (sym (sum_by-cons (λ x. cond (p x) 1 0) n ns))
  where
    several : (c : ℕ) → false ≡ nat_eq (1 + (1 + c)) 1
    several c = let h : nat_eq (1 + (1 + c)) 1 ≡ false = grind (arith, nat_tests) in sym h

    counted : (a b : ℕ) → a ≡ b → nat_eq a 1 ≡ nat_eq b 1
    counted a b e = ap (λ v. nat_eq v 1) e

    by : (b seen : Bool) → one_passes seen p ns ≡ nat_eq (cond seen 1 0 + count_by p ns) 1 → one_passes true p ns ≡ nat_eq (1 + count_by p ns) 1
        → cond b (cond seen false (one_passes true p ns)) (one_passes seen p ns) ≡ nat_eq (cond seen 1 0 + (cond b 1 0 + count_by p ns)) 1
    by true true h g = several (count_by p ns)
    by true false h g = g ∙ counted (1 + count_by p ns) (0 + (1 + count_by p ns)) (omega arith)
    by false true h g = h ∙ counted (1 + count_by p ns) (1 + (0 + count_by p ns)) (omega arith)
    by false false h g = h ∙ counted (0 + count_by p ns) (0 + (0 + count_by p ns)) (omega arith)

pub one_is : (p : List ℕ → Bool) (ns : List (List ℕ)) → one_passes false p ns ≡ nat_eq (count_by p ns) 1
one_is p ns = one_is_from false p ns ∙ ap (λ v. nat_eq v 1) (let e : 0 + count_by p ns ≡ count_by p ns = omega arith in e)

-- an equal name is meant; else the only one that is the same
pub means_equal : (ns : List (List ℕ)) (name : List ℕ) (at : ℕ) → first_from 0 (pointwise nat_eq name) ns ≡ Some at → Tells (meant ns name) (answers.Found at)
means_equal ns name at e =
    let P : Option ℕ → Type 0 = λ v. Tells (equal_or v (only_place (count_by (same name) ns) (first_place (same name) ns))) (answers.Found at) in
    subst P (sym e ∙ equal_is name ns) refl

module _ (ns : List (List ℕ)) (name : List ℕ) (none : first_from 0 (pointwise nat_eq name) ns ≡ None) where
  without : meant ns name ≡ only_place (count_by (same name) ns) (first_place (same name) ns)
  without = ap (λ v. equal_or v (only_place (count_by (same name) ns) (first_place (same name) ns))) (sym (equal_is name ns) ∙ none)

  pub means_absent : first_from 0 (same name) ns ≡ None → Tells (meant ns name) answers.Absent
  means_absent e =
      let first = sym (first_is (same name) ns) ∙ e in
      subst (λ m. Tells m answers.Absent) (sym (without ∙ ap (only_place (count_by (same name) ns)) first)) tt

  pub means_one : (at : ℕ) → first_from 0 (same name) ns ≡ Some at → one_passes false (same name) ns ≡ true → Tells (meant ns name) (answers.Found at)
  means_one at e o =
      let first = sym (first_is (same name) ns) ∙ e in
      let one = sym (one_is (same name) ns) ∙ o in
      subst (λ m. Tells m (answers.Found at)) (sym (without ∙ ap (only_place (count_by (same name) ns)) first ∙ ap (λ b. cond b (edif.Found at) edif.Several) one)) refl

  pub means_several : (at : ℕ) → first_from 0 (same name) ns ≡ Some at → one_passes false (same name) ns ≡ false → Tells (meant ns name) answers.Several
  means_several at e o =
      let first = sym (first_is (same name) ns) ∙ e in
      let one = sym (one_is (same name) ns) ∙ o in
      subst (λ m. Tells m answers.Several) (sym (without ∙ ap (only_place (count_by (same name) ns)) first ∙ ap (λ b. cond b (edif.Found at) edif.Several) one)) tt

-- the first name of all
pub first_defined : (old new : List (List ℕ × ℕ)) (name : List ℕ) (place : ℕ) (found : Option ℕ) → old ≡ [] → DefinesName old name place new found → new ≡ (name, place) ∷ []
first_defined [] new name place None e h = h.1
first_defined [] new name place (Some earlier) e h = absurd (let l = h.0.1 in omega (arith, l))
first_defined (x ∷ old) new name place found e h = absurd (cc e)
