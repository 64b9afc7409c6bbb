-- Names in lower case, beside the names.
use Rattle.std.proofs.Common.{◌≡◌, ℕ, Bool, true, false, cond, List, [], ◌∷◌, ◌++◌, map, nat_eq, inl, inr, refl, sym, ap, ◌∙◌}
use Rattle.std.specs.Prelude.{◌||◌}
use Rattle.std.specs.Cmp.Lexicographic.{pointwise, nat_list_eq_equiv}
use Rattle.std.specs.List.{list_any, AllByRecursion, IsDistinct}
use Rattle.std.proofs.lemmas.Bool.{or_cases, or_left, or_right}
use Rattle.std.proofs.lemmas.List.{map-append}
use Rattle.std.proofs.lemmas.List.Folds.{list_any-append}
use Rattle.indexmap.specs.IndexSet.{insert_key}
use Rattle.edit_rules_spec.specs.Find.{is_name, is_same}
use Rattle.edit_rules_spec.proofs.Lists.{Apart, distinct_of}
use Rattle.edit_rules_spec.proofs.Refusals.{is_name-refl, same_name}
use Rattle.netlist_schema.specs.Names.{AreDistinct}
use Rattle.db_version.specs.Lowered.{AreLowered, lower}

or_none : (b : Bool) → (b || false) ≡ b
or_none true = refl
or_none false = refl

-- what is in a list already adds nothing to it
or_there : (q name : List ℕ) (names : List (List ℕ)) → list_any (is_name name) names ≡ true → list_any (is_name q) names ≡ (list_any (is_name q) names || is_name q name)
or_there q name names there = at (is_name q name) refl
  where
    at : (b : Bool) → is_name q name ≡ b → list_any (is_name q) names ≡ (list_any (is_name q) names || b)
    at false is = sym (or_none (list_any (is_name q) names))
    at true is =
        let found : list_any (is_name q) names ≡ true = ap (λ n. list_any (is_name n) names) (same_name q name is) ∙ there in
        found ∙ sym (or_right (list_any (is_name q) names) true refl)

any_more : (q name : List ℕ) (names : List (List ℕ)) → list_any (is_name q) (names ++ name ∷ []) ≡ (list_any (is_name q) names || is_name q name)
any_more q name names = list_any-append (is_name q) names (name ∷ []) ∙ ap (λ b. list_any (is_name q) names || b) (or_none (is_name q name))

-- a name that is inserted
any_inserted : (q name : List ℕ) (names : List (List ℕ)) → list_any (is_name q) (insert_key (pointwise nat_eq) names name) ≡ (list_any (is_name q) names || is_name q name)
any_inserted q name names = at (list_any (is_name name) names) refl
  where
    at : (b : Bool) → list_any (is_name name) names ≡ b → list_any (is_name q) (cond b names (names ++ name ∷ [])) ≡ (list_any (is_name q) names || is_name q name)
    at true is = or_there q name names is
    at false is = any_more q name names

-- a name that is there is there in lower case
any_lower : (name : List ℕ) (names : List (List ℕ)) → list_any (is_name name) names ≡ true → list_any (is_name (lower name)) (map lower names) ≡ true
any_lower name [] there = there
any_lower name (x ∷ names) there = elim (or_cases (is_name name x) (list_any (is_name name) names) there) [
  | inl here ↦
      or_left (is_name (lower name) (lower x)) (list_any (is_name (lower name)) (map lower names)) (ap (λ n. is_name (lower name) (lower n)) (sym (same_name name x here)) ∙ is_name-refl (lower name))
  | inr later ↦ or_right (is_name (lower name) (lower x)) (list_any (is_name (lower name)) (map lower names)) (any_lower name names later)
]

lower_inserted : (q name : List ℕ) (names : List (List ℕ)) → list_any (is_name q) (map lower (insert_key (pointwise nat_eq) names name)) ≡ (list_any (is_name q) (map lower names) || is_name q (lower name))
lower_inserted q name names = at (list_any (is_name name) names) refl
  where
    at : (b : Bool) → list_any (is_name name) names ≡ b → list_any (is_name q) (map lower (cond b names (names ++ name ∷ []))) ≡ (list_any (is_name q) (map lower names) || is_name q (lower name))
    at true is = or_there q (lower name) (map lower names) (any_lower name names is)
    at false is = ap (list_any (is_name q)) (map-append lower names (name ∷ [])) ∙ any_more q (lower name) (map lower names)

-- no names
pub lowered_none : (names lowered : List (List ℕ)) → names ≡ [] → lowered ≡ [] → AreLowered names lowered
lowered_none names lowered none nothing = λ q. ap (list_any (is_name q)) nothing ∙ sym (ap (λ ns. list_any (is_name q) (map lower ns)) none)

-- the same names
pub lowered_same : (names lowered new_names new_lowered : List (List ℕ)) → AreLowered names lowered → new_names ≡ names → new_lowered ≡ lowered → AreLowered new_names new_lowered
lowered_same names lowered new_names new_lowered are names_is lowered_is = λ q. ap (list_any (is_name q)) lowered_is ∙ (are q ∙ sym (ap (λ ns. list_any (is_name q) (map lower ns)) names_is))

-- one name more
pub lowered_more : (names lowered new_names new_lowered : List (List ℕ)) (name key : List ℕ) → AreLowered names lowered → key ≡ lower name → new_names ≡ insert_key (pointwise nat_eq) names name
    → new_lowered ≡ insert_key (pointwise nat_eq) lowered key → AreLowered new_names new_lowered
lowered_more names lowered new_names new_lowered name key are key_is names_is lowered_is = λ q.
    ap (list_any (is_name q)) lowered_is ∙ any_inserted q key lowered ∙ (λ i. are q i || is_name q (key_is i))
    ∙ sym (ap (λ ns. list_any (is_name q) (map lower ns)) names_is ∙ lower_inserted q name names)

-- a look for a name that is the same ignoring case
pub same_found : (name key : List ℕ) (names lowered : List (List ℕ)) (found : Bool) → AreLowered names lowered → key ≡ lower name → found ≡ list_any (is_name key) lowered
    → found ≡ list_any (λ other. is_same other name) names
same_found name key names lowered found are key_is is = is ∙ ap (λ k. list_any (is_name k) lowered) key_is ∙ are (lower name) ∙ turned names
  where
    turned : (ns : List (List ℕ)) → list_any (is_name (lower name)) (map lower ns) ≡ list_any (λ other. is_same other name) ns
    turned [] = refl
    turned (x ∷ ns) = λ i. nat_list_eq_equiv.symm (lower name) (lower x) i || turned ns i

-- keys that differ, one by one
pub distinct_from : (names : List (List ℕ)) → IsDistinct (pointwise nat_eq) names → AreDistinct names
unfolding IsDistinct
distinct_from names is = distinct_of names (apart names is)
  where
    differs : (x y : List ℕ) → pointwise nat_eq x y ≡ false → x ≡ y → ⊥
    differs x y off same =
        let on : pointwise nat_eq x y ≡ true = ap (pointwise nat_eq x) (sym same) ∙ is_name-refl x in
        let never : true ≡ false = sym on ∙ off in
        cc

    each : (x : List ℕ) (ys : List (List ℕ)) → AllByRecursion (λ y. pointwise nat_eq x y ≡ false) ys → AllByRecursion (λ y. x ≡ y → ⊥) ys
    each x [] all = tt
    each x (y ∷ ys) all = (differs x y all.0, each x ys all.1)

    apart : (xs : List (List ℕ)) → IsDistinct (pointwise nat_eq) xs → Apart xs
    apart [] all = tt
    apart (x ∷ xs) all = (each x xs all.0, apart xs all.1)
