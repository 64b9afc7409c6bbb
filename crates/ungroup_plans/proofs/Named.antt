-- What moves up gets names, one after another.
use Rattle.std.proofs.Common.{◌≡◌, ◌<◌, ◌≤◌, ◌+◌, ◌^◌, ℕ, suc, arith, Bool, true, false, List, [], ◌∷◌, ◌++◌, length, get_or, drop, map, take, refl, sym, ap, subst, ◌∙◌, append_assoc}
use Rattle.std.specs.Prelude.{◌||◌}
use Rattle.std.specs.List.{list_any}
use Rattle.std.proofs.lemmas.List.{map-append, take_more, take_all}
use Rattle.flat_spec.proofs.RunLemmas.{all_found}
use Rattle.edit_rules_spec.specs.Find.{is_name}
use Rattle.netlist_schema.specs.Types.{Name}
use Rattle.ungroup_spec.specs.Names.{named_up, name_up}
use Rattle.ungroup_plans.specs.Taken.{IsNamedUp, IsOf, lower}
use Rattle.ungroup_plans.proofs.Steps.{drop_first}

-- ---- sets of names, in whatever order

any_last : (q x : List ℕ) (xs : List (List ℕ)) → list_any (is_name q) (map lower (xs ++ x ∷ [])) ≡ list_any (is_name q) (map lower (x ∷ xs))
any_last q x [] = refl
any_last q x (y ∷ ys) = ap (λ b. is_name q (lower y) || b) (any_last q x ys) ∙ around (is_name q (lower y)) (is_name q (lower x)) (list_any (is_name q) (map lower ys))
  where
    around : (a b c : Bool) → (a || (b || c)) ≡ (b || (a || c))
    around true true c = refl
    around true false c = refl
    around false b c = refl

-- a name that is taken last may as well stand first
pub of_last : (set : List (List ℕ)) (names : List (List ℕ)) (x : List ℕ) → IsOf set (x ∷ names) → IsOf set (names ++ x ∷ [])
of_last set names x of q = of q ∙ sym (any_last q x names)

pub of_more : {A : Type 0} (f : A → List ℕ) (set new : List (List ℕ)) (xs : List A) (i : ℕ) (x : A) → i < length xs → x ≡ get_or xs i x
    → ((names : List (List ℕ)) → IsOf set names → IsOf new (f x ∷ names)) → IsOf set (map f (take i xs)) → IsOf new (map f (take (i + 1) xs))
of_more f set new xs i x within is step of =
    subst (IsOf new)
    (sym (map-append f (take i xs) (x ∷ [])) ∙ ap (map f) (sym (take_more xs i x within ∙ ap (λ v. take i xs ++ v ∷ []) (sym is))))
    (of_last new (map f (take i xs)) (f x) (step (map f (take i xs)) of))

pub of_all : {A : Type 0} (f : A → List ℕ) (set : List (List ℕ)) (xs : List A) (i : ℕ) → length xs ≤ i → IsOf set (map f (take i xs)) → IsOf set (map f xs)
of_all f set xs i past of = subst (λ v. IsOf set (map f v)) (take_all i xs past) of

-- ---- names one after another

module _ {X : Type 0} (name_of : X → Name) (with_name : Name → X → X) (inst : Name) where
  -- the names that are taken by now, and what has got its name
  pub record AreNamedSoFar (taken : List (List ℕ)) (names : List (List ℕ)) (xs : List X) (i : ℕ) (old made : List X) : Type 0 where
    pub now : List (List ℕ)
    pub of : IsOf taken now
    pub count : length now ≡ length names + i
    pub so_far : made ++ named_up name_of with_name now inst (drop i xs) ≡ old ++ named_up name_of with_name names inst xs

  pub named_begins : (taken : List (List ℕ)) (names : List (List ℕ)) (xs old : List X) → IsOf taken names → AreNamedSoFar taken names xs 0 old old
  named_begins taken names xs old of = record { now = names; of = of; count = omega arith; so_far = refl }

  pub named_more : (taken new : List (List ℕ)) (names : List (List ℕ)) (xs : List X) (i : ℕ) (x y : X) (name : Name) (old made added : List X) → i < length xs → x ≡ get_or xs i x
      → length names + length xs < 2 ^ 62 → IsNamedUp taken inst (name_of x) new name → y ≡ with_name name x → added ≡ made ++ y ∷ []
      → AreNamedSoFar taken names xs i old made → AreNamedSoFar new names xs (i + 1) old added
  named_more taken new names xs i x y name old made added within is few up y_is added_is far =
      let named = up far.now far.of (omega (arith, far.count, few, within)) in
      let opened : named_up name_of with_name far.now inst (drop i xs) ≡ with_name name x ∷ named_up name_of with_name (name.id ∷ far.now) inst (drop (i + 1) xs) =
      ap (named_up name_of with_name far.now inst) (drop_first xs i x within is)
      ∙ (λ t. with_name (sym named.0 t) x ∷ named_up name_of with_name ((sym named.0 t).id ∷ far.now) inst (drop (i + 1) xs)) in
      record {
        now = name.id ∷ far.now;
        of = named.1;
        count = omega (arith, far.count);
        so_far =
            ap (λ v. v ++ named_up name_of with_name (name.id ∷ far.now) inst (drop (i + 1) xs)) (added_is ∙ ap (λ v. made ++ v ∷ []) y_is)
            ∙ append_assoc made (with_name name x ∷ []) (named_up name_of with_name (name.id ∷ far.now) inst (drop (i + 1) xs))
            ∙ ap (λ v. made ++ v) (sym opened)
            ∙ far.so_far;
      }

  pub named_all : (taken : List (List ℕ)) (names : List (List ℕ)) (xs : List X) (i : ℕ) (old made : List X) → length xs ≤ i → AreNamedSoFar taken names xs i old made
      → made ≡ old ++ named_up name_of with_name names inst xs
  named_all taken names xs i old made past far =
      all_found (named_up name_of with_name far.now inst) refl xs i made (old ++ named_up name_of with_name names inst xs) past far.so_far

  pub length-named_up : (names : List (List ℕ)) (xs : List X) → length (named_up name_of with_name names inst xs) ≡ length xs
  length-named_up names [] = refl
  length-named_up names (x ∷ xs) = ap suc (length-named_up ((name_up names inst (name_of x)).id ∷ names) xs)
