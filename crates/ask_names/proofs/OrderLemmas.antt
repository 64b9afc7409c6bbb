-- Names that are found by halving.
use Rattle.std.proofs.Common.{◌≡◌, ◌≢◌, ◌<◌, ◌+◌, ℕ, zero, suc, List, [], ◌∷◌, ◌++◌, length, get_or, map, Bool, true, false, cond, refl, sym, ap, subst, ◌∙◌, inl, inr, arith, Some, None, Ok, Err, Option, Result, slice_get}
use Rattle.std.specs.Cmp.Lexicographic.{slice_cmp}
use Rattle.std.specs.List.{All, Contains, position_from}
use Rattle.std.specs.List.Sorted.{IsBinarySearchResult, IsPartitionPoint, IsPermutation, IsSearchInRange}
use Rattle.std.specs.Option.{option_map, option_map_or}
use Rattle.std.specs.Ordering.{nat_cmp, ordering_then}
use Rattle.std.specs.declared.cmp.Ordering.{Ordering}
use Rattle.std.specs.declared.cmp.Ordering.TheVariants.{Less, Equal, Greater}
use Rattle.std.proofs.lemmas.Bool.{cases_eq, cases_lt}
use Rattle.std.proofs.lemmas.Cmp.{nat_list_cmp_total, ranked, tied_itself}
use Rattle.std.proofs.lemmas.List.Elements.{All-push, Contains-append_left, Contains-push}
use Rattle.std.proofs.lemmas.List.Sorted.{All-permutation, Contains-permutation, searchable_from_sorted}
use Rattle.std.proofs.lemmas.Option.{none-some, same_Some, slice_get-get_or, slice_get-map, slice_get_within}
use Rattle.netlist_schema.proofs.Lists.{all_at, get_mapped}
use Rattle.netlist_schema.specs.Names.{AreDistinct}
use Rattle.edit_rules_spec.specs.Find.{is_name, place_of}
use Rattle.edit_rules_spec.proofs.Lists.{Apart, apart_of}
use Rattle.edit_rules_spec.proofs.Named.{not_named}
use Rattle.edit_rules_spec.proofs.Refusals.{is_name-refl}
use Rattle.ask_names.specs.Orders.{AreInOrder, ArePlaces, IsSearched, cmp_to, name_at}

-- names that compare as equal are one
then_equal : (o p : Ordering) → ordering_then o p ≡ Equal → (o ≡ Equal) × (p ≡ Equal)
then_equal Less p e = absurd (cc (e))
then_equal Equal p e = (refl, e)
then_equal Greater p e = absurd (cc (e))

pub equal_names : (a b : List ℕ) → slice_cmp nat_cmp a b ≡ Equal → a ≡ b
equal_names [] [] e = refl
equal_names [] (y ∷ ys) e = absurd (cc (e))
equal_names (x ∷ xs) [] e = absurd (cc (e))
equal_names (x ∷ xs) (y ∷ ys) e =
    let parts = then_equal (nat_cmp x y) (slice_cmp nat_cmp xs ys) e in
    let head : x ≡ y = ranked x y Equal (sym parts.0) in
    let tail = equal_names xs ys parts.1 in
    λ i. head i ∷ tail i

less_equal : Less ≡ Equal → ⊥
less_equal e = cc (e)

greater_equal : Greater ≡ Equal → ⊥
greater_equal e = cc (e)

-- the place of a name, where names differ
placed : (n : ℕ) (names : List (List ℕ)) (name : List ℕ) (k : ℕ) → slice_get names k ≡ Some name → Apart names → position_from (λ other. is_name other name) n names ≡ Some (n + k)
placed n [] name k is apart = absurd (none-some name is)
placed n (x ∷ xs) name zero is apart =
    let here : is_name x name ≡ true = subst (λ (v : List ℕ). is_name x v ≡ true) (same_Some x name is) (is_name-refl x) in
    let place : n ≡ n + 0 = omega arith in
    ap (λ (b : Bool). cond b (Some n) (position_from (λ other. is_name other name) (n + 1) xs)) here ∙ ap (λ (m : ℕ). Some m) place
placed n (x ∷ xs) name (suc k) is apart =
    let other : x ≢ name = all_at (λ y. x ≢ y) xs k name apart.0 is in
    let here : is_name x name ≡ false = not_named (is_name x name) x name refl other in
    let place : (n + 1) + k ≡ n + suc k = omega arith in
    ap (λ (b : Bool). cond b (Some n) (position_from (λ other. is_name other name) (n + 1) xs)) here
    ∙ placed (n + 1) xs name k is apart.1 ∙ ap (λ (m : ℕ). Some m) place

pub at_place : (names : List (List ℕ)) (name : List ℕ) (place : ℕ) → AreDistinct names → slice_get names place ≡ Some name → place_of name names ≡ Some place
at_place names name place differ got =
    let same : 0 + place ≡ place = omega arith in
    placed 0 names name place got (apart_of names differ) ∙ ap (λ (m : ℕ). Some m) same

pub nowhere : (n : ℕ) (names : List (List ℕ)) (name : List ℕ) → ((k : ℕ) → slice_get names k ≡ Some name → ⊥) → position_from (λ other. is_name other name) n names ≡ None
nowhere n [] name absent = refl
nowhere n (x ∷ xs) name absent =
    let here : is_name x name ≡ false = not_named (is_name x name) x name refl (λ e. absent zero (ap (λ (v : List ℕ). Some v) e)) in
    ap (λ (b : Bool). cond b (Some n) (position_from (λ other. is_name other name) (n + 1) xs)) here ∙ nowhere (n + 1) xs name (λ k is. absent (suc k) is)

-- the name at a place that there is
pub name_there : (names : List (List ℕ)) (place : ℕ) (name : List ℕ) → slice_get names place ≡ Some name → name_at names place ≡ name
name_there names place name got = ap (λ (o : Option (List ℕ)). option_map_or (λ n. n) o []) got

pub named_there : {X : Type 0} (f : X → List ℕ) (xs : List X) (place : ℕ) (x : X) → slice_get xs place ≡ Some x → f x ≡ name_at (map f xs) place
named_there f xs place x got = sym (name_there (map f xs) place (f x) (get_mapped f xs place x got))

pub none_there : {X : Type 0} (f : X → List ℕ) (xs : List X) (place : ℕ) → slice_get xs place ≡ None → name_at (map f xs) place ≡ []
none_there f xs place none = ap (λ (o : Option (List ℕ)). option_map_or (λ n. n) o []) (slice_get-map f xs place ∙ ap (option_map f) none)

-- a name that has a place compares as equal there
no_place : (names : List (List ℕ)) (name : List ℕ) (order : List ℕ) (at : ℕ) → AreInOrder names order
    → IsPartitionPoint (λ (p : ℕ). cmp_to names name p ≡ Less) (λ (p : ℕ). cmp_to names name p ≡ Greater) order at → (k : ℕ) → slice_get names k ≡ Some name → ⊥
no_place names name order at is parts k got =
    let has = is.places.each k (slice_get_within names k name got) in
    let equal : cmp_to names name (get_or order has.0 k) ≡ Equal =
    ap (cmp_to names name) has.2 ∙ ap (λ (v : List ℕ). slice_cmp nat_cmp v name) (name_there names k name got) ∙ tied_itself nat_list_cmp_total name in
    elim (cases_lt has.0 at) [
      | inl less ↦ less_equal (sym (parts.0 has.0 k (omega arith) less) ∙ equal)
      | inr more ↦ greater_equal (sym (parts.1 has.0 k more has.1) ∙ equal)
    ]

-- what a search by halving finds
pub searched : (names : List (List ℕ)) (name : List ℕ) (order : List ℕ) (r : Result ℕ ℕ) → AreInOrder names order → IsSearchInRange r (length order)
    → IsBinarySearchResult (cmp_to names name) order r → IsSearched names name order r
searched names name order (Ok at) is within found =
    let place : ℕ = get_or order at 0 in
    let there : slice_get order at ≡ Some place = slice_get-get_or order at 0 within in
    let got : slice_get names place ≡ Some (get_or names place []) = slice_get-get_or names place [] (is.places.within at 0 within) in
    let equal : get_or names place [] ≡ name = sym (name_there names place (get_or names place []) got) ∙ equal_names (name_at names place) name (found 0) in
    there ∙ sym (at_place names name place is.differ (got ∙ ap (λ (v : List ℕ). Some v) equal))
searched names name order (Err at) is within parted =
    let parts = parted (searchable_from_sorted nat_list_cmp_total (name_at names) order name is.ascend) in
    nowhere 0 names name (no_place names name order at is parts)

-- places, one by one and in any order
pub no_places : ArePlaces 0 []
no_places = record { each = λ place less. absurd (omega (arith, less)); within = λ k d less. absurd (omega (arith, less)) }

pub one_place_more : (count : ℕ) (old new : List ℕ) → new ≡ old ++ count ∷ [] → ArePlaces count old → ArePlaces (count + 1) new
one_place_more count old new added is =
    let fewer : All (λ p. p < count + 1) old = λ k d less. let below : get_or old k d < count = is.within k d less in omega (arith, below) in
    subst (ArePlaces (count + 1)) (sym added) (record {
      each = λ place less. elim (cases_eq place count) [
        | inl same ↦ subst (Contains (old ++ count ∷ [])) (sym same) (Contains-push old count)
        | inr apart ↦
            let lower : place < count = grind (arith, less, apart) in
            Contains-append_left old (count ∷ []) place (is.each place lower)
      ];
      within = All-push (λ p. p < count + 1) old count fewer (omega arith);
    })

pub places_permuted : (count : ℕ) (old new : List ℕ) → IsPermutation old new → ArePlaces count old → ArePlaces count new
places_permuted count old new permuted is = record {
  each = λ place less. Contains-permutation old new place permuted (is.each place less);
  within = All-permutation (λ p. p < count) old new permuted is.within;
}

pub places_counted : (n m : ℕ) (places : List ℕ) → n ≡ m → ArePlaces n places → ArePlaces m places
places_counted n m places same is = subst (λ k. ArePlaces k places) same is

-- the same names, and the same order
pub in_order_as : (names same : List (List ℕ)) (order again : List ℕ) → names ≡ same → order ≡ again → AreInOrder names order → AreInOrder same again
in_order_as names same order again n o is = subst (AreInOrder same) o (subst (λ (v : List (List ℕ)). AreInOrder v order) n is)
