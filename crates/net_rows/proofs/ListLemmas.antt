-- Lists by numbers, element by element.
use Rattle.std.proofs.Common.{◌≡◌, ◌≢◌, ◌⊎◌, ◌<◌, ◌+◌, ℕ, zero, suc, List, [], ◌∷◌, ◌++◌, length, map, take, set, get_or, Bool, true, false, cond, refl, sym, ap, subst, ◌∙◌, inl, inr, arith, Some, None, Option, slice_get, append-nil}
use Rattle.std.specs.Prelude.{filter, nat_eq, unwrap_or}
use Rattle.std.specs.List.{All}
use Rattle.std.specs.Option.{option_eq}
use Rattle.std.proofs.lemmas.Bool.{cases_eq, eq-eqb, eqb-true}
use Rattle.std.proofs.lemmas.List.{length-map, length-set, map-set, take_all, take_more}
use Rattle.std.proofs.lemmas.List.Elements.{filter-append}
use Rattle.net_rows.specs.Lists.{AreParted, IsAdded, IsPut}
use Rattle.net_rows.proofs.NestedLemmas.{set_here, set_other}

get_map : {A B : Type 0} (f : A → B) (xs : List A) (k : ℕ) (d : A) → k < length xs → slice_get (map f xs) k ≡ Some (f (get_or xs k d))
get_map f [] k d less = absurd (omega (arith, less))
get_map f (x ∷ xs) zero d less = refl
get_map f (x ∷ xs) (suc k) d less = get_map f xs k d (omega (arith, less))

-- an element was added to the list at a place
pub added_at : {A R : Type 0} (items : R → List A) (rows : List R) (first : ℕ) (row new : R) (x : A) → first < length rows → items new ≡ items (get_or rows first row) ++ x ∷ []
    → IsAdded first x (map items rows) (map items (set rows first new))
added_at items rows first row new x less is =
    let old : unwrap_or (slice_get (map items rows) first) [] ≡ items (get_or rows first row) = ap (λ o. unwrap_or o []) (get_map items rows first row less) in
    map-set items rows first new ∙ ap (set (map items rows) first) (is ∙ ap (λ v. v ++ x ∷ []) (sym old))

pub none_yet : {A R : Type 0} (items : R → List A) (test : ℕ → A → Bool) (count : ℕ) (xs : List A) (rows : List R) → length rows ≡ count → All (λ row. items row ≡ []) rows
    → AreParted test count (take 0 xs) (map items rows)
none_yet {R = R} items test count xs rows long none = record {
  long = length-map rows items ∙ long;
  each = λ f less. at rows f (omega (arith, less, long)) none;
}
  where
    at : (rows : List R) (f : ℕ) → f < length rows → All (λ row. items row ≡ []) rows → slice_get (map items rows) f ≡ Some []
    at [] f less none = absurd (omega (arith, less))
    at (r ∷ rows) zero less none = ap Some (none 0 r (omega arith))
    at (r ∷ rows) (suc f) less none = at rows f (omega (arith, less)) (λ i d l. none (suc i) d (omega (arith, l)))

module _ {A : Type 0} (test : ℕ → A → Bool) (count : ℕ) (xs : List A) (k : ℕ) (x : A) (less : k < length xs) (is : get_or xs k x ≡ x) (o : Option ℕ)
    (test_is : (f : ℕ) → test f x ≡ option_eq nat_eq o (Some f)) where
  next : take (k + 1) xs ≡ take k xs ++ x ∷ []
  next = take_more xs k x less ∙ ap (λ v. take k xs ++ v ∷ []) is

  filtered : (f : ℕ) (b : Bool) → test f x ≡ b → filter (test f) (take (k + 1) xs) ≡ filter (test f) (take k xs) ++ cond b (x ∷ []) []
  filtered f b passed =
      ap (filter (test f)) next
      ∙ filter-append (test f) (take k xs) (x ∷ [])
      ∙ ap (λ v. filter (test f) (take k xs) ++ cond v (x ∷ []) []) passed

  none_more : (rows : List (List A)) → o ≡ None → AreParted test count (take k xs) rows → AreParted test count (take (k + 1) xs) rows
  none_more rows none h = record {
    long = h.long;
    each = λ f within. h.each f within ∙ ap Some (sym (filtered f false (test_is f ∙ ap (λ v. option_eq nat_eq v (Some f)) none) ∙ append-nil (filter (test f) (take k xs))));
  }

  one_more : (first : ℕ) (old new : List (List A)) → o ≡ Some first → IsAdded first x old new
      → AreParted test count (take k xs) old → AreParted test count (take (k + 1) xs) new
  one_more first old new named added h = record {
    long = ap length added ∙ length-set old first (unwrap_or (slice_get old first) [] ++ x ∷ []) ∙ h.long;
    each = λ f within. go f within (cases_eq f first);
  }
    where
      passes : (f : ℕ) → test f x ≡ nat_eq first f
      passes f = test_is f ∙ ap (λ v. option_eq nat_eq v (Some f)) named

      apart_is : (f : ℕ) → f ≢ first → nat_eq first f ≡ false
      apart_is f apart = by (nat_eq first f) refl
        where
          by : (b : Bool) → nat_eq first f ≡ b → b ≡ false
          by true e = absurd (apart (sym (eqb-true first f e)))
          by false e = refl

      go : (f : ℕ) → f < count → (f ≡ first) ⊎ (f ≢ first) → slice_get new f ≡ Some (filter (test f) (take (k + 1) xs))
      go f within (inl same) =
          let inside : first < length old = omega (arith, within, h.long, same) in
          let here : slice_get old first ≡ Some (filter (test f) (take k xs)) = subst (λ v. slice_get old v ≡ Some (filter (test f) (take k xs))) same (h.each f within) in
          ap (λ v. slice_get new v) same ∙ ap (λ v. slice_get v first) added ∙ set_here old first (unwrap_or (slice_get old first) [] ++ x ∷ []) inside
          ∙ ap (λ v. Some (unwrap_or v [] ++ x ∷ [])) here ∙ ap Some (sym (filtered f true (passes f ∙ eq-eqb first f (sym same))))
      go f within (inr apart) =
          ap (λ v. slice_get v f) added ∙ set_other old first f (unwrap_or (slice_get old first) [] ++ x ∷ []) apart ∙ h.each f within
          ∙ ap Some (sym (filtered f false (passes f ∙ apart_is f apart) ∙ append-nil (filter (test f) (take k xs))))

  pub more_parted : (old new : List (List A)) → IsPut o x old new → AreParted test count (take k xs) old → AreParted test count (take (k + 1) xs) new
  more_parted old new put h = go o refl put
    where
      go : (v : Option ℕ) → o ≡ v → IsPut v x old new → AreParted test count (take (k + 1) xs) new
      go None is put = subst (λ w. AreParted test count (take (k + 1) xs) w) (sym put) (none_more old is h)
      go (Some first) is put = one_more first old new is put h

pub all_parted : {A : Type 0} (test : ℕ → A → Bool) (count : ℕ) (xs : List A) (k : ℕ) (lists : List (List A)) → (k < length xs → ⊥) → AreParted test count (take k xs) lists → AreParted test count xs lists
all_parted test count xs k lists done h = subst (λ v. AreParted test count v lists) (take_all k xs (omega (arith, done))) h
