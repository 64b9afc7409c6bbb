-- A form fits its row or a breach stands in it; and lists of forms mean something, or a fault is among them.
use Rattle.std.proofs.Common.{◌≡◌, ◌≢◌, ℕ, zero, suc, ◌<◌, ◌≤◌, ℤ, List, [], ◌∷◌, ◌++◌, map, length, refl, ap, sym, ◌∙◌, subst, ◌⊎◌, inl, inr, Bool, true, false, Option, Some, None, arith, slice_index_or}
use Rattle.std.specs.Prelude.{IsTrue, cond, ◌||◌, filter, drop, take, slice_get, IfSome, nat_eq}
use Rattle.std.specs.List.{list_all, AllZip, AllByRecursion, All}
use Rattle.std.proofs.lemmas.List.Elements.{All-from_recursion}
use Rattle.std.proofs.lemmas.Bool.Decides.{nat_tests}
use Rattle.std.proofs.lemmas.Bool.{cases_Bool}
use Rattle.std.proofs.lemmas.List.{length-map, map-append}
use Rattle.netlist_schema.specs.Names.{AreDistinct}
use Rattle.edif_spelling_spec.specs.Tree.{Bare, Placed, Trees, Form', Word', Integer', String', End, More, form, word, trees, items, bare, bares}
use Rattle.edif_spec.specs.Keyword.{row, FormRow, Takes, Choice, AnIdentifier, AnInteger, AString, AForm, Follower, Many, One}
use Rattle.edif_spec.specs.Rows.{has_keyword, those, is_one_of, is_follower, AtMostOnce, FitsRow, IsFormOf, Each, EachAfter, Perhaps}
use Rattle.edif_spec.specs.Writable.{IsWritable, AreWritable}
use Rattle.edif_spec.specs.Faults.{AtOne, AtTwo, place_of, arguments, fixed_count, followers, those_of, parts, Among, FixedFault, FollowerFault, SecondFault, second, Breaches, RowFault, token_kind, misplaced, Beyond, SameName, Repeats}
use Rattle.edif_spec.specs.Stands.{AmongAfter}
use Rattle.edif_spec.specs.declared.keyword.Keyword.{Keyword}
use Rattle.edif_spec.specs.declared.fault.MeaningFault.{MeaningFault}
use Rattle.edif_spec.specs.declared.fault.MeaningFault.TheVariants.{At, Clash, OverLimit}
use Rattle.edif_spec.specs.declared.fault.ClashKind.TheVariants.{Duplicate}
use Rattle.edif_spec.specs.declared.fault.Kind.TheVariants.{BadForm}
use Rattle.edif_spec.proofs.Both.{and_true}
use Rattle.edif_spec.proofs.FaultForms.{filter_bare, Differ, IsNamed}

-- some fault of these stands
abbrev pub Faulty : (MeaningFault → Type 0) → Type 0
Faulty F = (f : MeaningFault) × F f

-- Rows.
pub split : {A : Type 0} (n : ℕ) (xs : List A) → take n xs ++ drop n xs ≡ xs
split zero xs = refl
split (suc n) [] = refl
split (suc n) (x ∷ xs) = ap (λ v. x ∷ v) (split n xs)

pub trees_bares : (ts : Trees ℕ) → trees (map bare (items ts)) ≡ bares ts
trees_bares End = refl
trees_bares (More t ts) = ap (λ v. More (bare t) v) (trees_bares ts)

-- the fixed arguments stand in their places
abbrev pub FixedFit : List (List Choice) → List Placed → Type 0
FixedFit cs ts = AllZip (λ c u. is_one_of c (bare u) ≡ true) cs ts

pub fixed_known : (wrong : Placed → MeaningFault) (place : ℕ) (cs : List (List Choice)) (ts : List Placed) → FixedFit cs (take (length cs) ts) ⊎ Faulty (FixedFault wrong place cs ts)
fixed_known wrong place [] ts = inl tt
fixed_known wrong place (c ∷ cs) [] = inr (At BadForm place, refl)
fixed_known wrong place (c ∷ cs) (t ∷ ts) = go (cases_Bool (is_one_of c (bare t))) (fixed_known wrong place cs ts)
  where
    go : (is_one_of c (bare t) ≡ true) ⊎ (is_one_of c (bare t) ≡ false) → FixedFit cs (take (length cs) ts) ⊎ Faulty (FixedFault wrong place cs ts) → FixedFit (c ∷ cs) (t ∷ take (length cs) ts) ⊎ Faulty (FixedFault wrong place (c ∷ cs) (t ∷ ts))
    go (inr e) r = inr (wrong t, inl (e, refl))
    go (inl e) (inl h) = inl (e, h)
    go (inl e) (inr h) = inr (h.0, inr h.1)

pub followers_known : (wrong : Placed → MeaningFault) (fs : List Follower) (ts : List Placed) → IsTrue (list_all (is_follower fs) (map bare ts)) ⊎ Faulty (FollowerFault wrong fs ts)
followers_known wrong fs [] = inl refl
followers_known wrong fs (t ∷ ts) = go (cases_Bool (is_follower fs (bare t))) (followers_known wrong fs ts)
  where
    go : (is_follower fs (bare t) ≡ true) ⊎ (is_follower fs (bare t) ≡ false) → IsTrue (list_all (is_follower fs) (map bare ts)) ⊎ Faulty (FollowerFault wrong fs ts) → IsTrue (list_all (is_follower fs) (map bare (t ∷ ts))) ⊎ Faulty (FollowerFault wrong fs (t ∷ ts))
    go (inr e) r = inr (wrong t, inl (e, refl))
    go (inl e) (inl h) = inl (and_true (is_follower fs (bare t)) (list_all (is_follower fs) (map bare ts)) e h)
    go (inl e) (inr h) = inr (h.0, inr h.1)

one_known : (k : Keyword) (ts : List Placed) → (length ts ≤ 1) ⊎ Faulty (λ f. AtTwo (λ a b. f ≡ second k a b) ts)
one_known k [] = inl (omega arith)
one_known k (a ∷ []) = inl (omega arith)
one_known k (a ∷ b ∷ rest) = inr (second k a b, inl (inl refl))

seconds_known : (fs : List Follower) (ts : List Placed) → AtMostOnce fs (map bare ts) ⊎ Faulty (SecondFault fs ts)
seconds_known [] ts = inl tt
seconds_known (Many k ∷ fs) ts = seconds_known fs ts
seconds_known (One k ∷ fs) ts = go (one_known k (those_of k ts)) (seconds_known fs ts)
  where
    go : (length (those_of k ts) ≤ 1) ⊎ Faulty (λ f. AtTwo (λ a b. f ≡ second k a b) (those_of k ts)) → AtMostOnce fs (map bare ts) ⊎ Faulty (SecondFault fs ts) → AtMostOnce (One k ∷ fs) (map bare ts) ⊎ Faulty (SecondFault (One k ∷ fs) ts)
    go (inr h) r = inr (h.0, inl h.1)
    go (inl e) (inl h) =
        let l : length (those_of k ts) ≡ length (those k (map bare ts)) = sym (length-map (those_of k ts) bare) ∙ ap length (filter_bare (has_keyword k) ts) in
        inl ((omega (arith, l, e)), h)
    go (inl e) (inr h) = inr (h.0, inr h.1)

fixed_bare : (cs : List (List Choice)) (ts : List Placed) → FixedFit cs ts → AllZip (λ c t. IsTrue (is_one_of c t)) cs (map bare ts)
fixed_bare [] [] h = tt
fixed_bare [] (t ∷ ts) h = absurd h
fixed_bare (c ∷ cs) [] h = absurd h
fixed_bare (c ∷ cs) (t ∷ ts) h = (h.0, fixed_bare cs ts h.1)

-- a form that fits its row, with its arguments
pub record Fits (k : Keyword) (cs : List (List Choice)) (t : Placed) : Type 0 where
  pub fixed : List Placed
  pub split : arguments t ≡ fixed ++ followers k t
  pub choices : AllZip (λ c u. is_one_of c (bare u) ≡ true) cs fixed
  pub form : IsFormOf k (bare t) (map bare fixed) (map bare (followers k t))

fits_known : (k : Keyword) (cs : List (List Choice)) (fs : List Follower) (p q : ℕ) (name : List ℕ) (ts : Trees ℕ) → row k ≡ Takes cs fs → has_keyword k (bare (Form' p (More (Word' q name) ts))) ≡ true
    → Fits k cs (Form' p (More (Word' q name) ts)) ⊎ Faulty (RowFault k (Form' p (More (Word' q name) ts)))
fits_known k cs fs p q name ts r h =
    go (fixed_known (misplaced (token_kind k) (Takes cs fs)) p cs us) (followers_known (misplaced BadForm (Takes cs fs)) fs (drop (length cs) us)) (seconds_known fs (drop (length cs) us))
  where
    us : List Placed
    us = items ts

    go : FixedFit cs (take (length cs) (items ts)) ⊎ Faulty (FixedFault (misplaced (token_kind k) (Takes cs fs)) p cs (items ts))
        → IsTrue (list_all (is_follower fs) (map bare (drop (length cs) (items ts)))) ⊎ Faulty (FollowerFault (misplaced BadForm (Takes cs fs)) fs (drop (length cs) (items ts)))
        → AtMostOnce fs (map bare (drop (length cs) (items ts))) ⊎ Faulty (SecondFault fs (drop (length cs) (items ts)))
        → Fits k cs (Form' p (More (Word' q name) ts)) ⊎ Faulty (RowFault k (Form' p (More (Word' q name) ts)))
    go (inr x) b c = let P : FormRow → Type 0 = λ v. Breaches (token_kind k) v (Form' p (More (Word' q name) ts)) x.0 in inr (x.0, subst P (sym r) (inl x.1))
    go (inl x) (inr y) c = let P : FormRow → Type 0 = λ v. Breaches (token_kind k) v (Form' p (More (Word' q name) ts)) y.0 in inr (y.0, subst P (sym r) (inr (inl y.1)))
    go (inl x) (inl y) (inr z) = let P : FormRow → Type 0 = λ v. Breaches (token_kind k) v (Form' p (More (Word' q name) ts)) z.0 in inr (z.0, subst P (sym r) (inr (inr z.1)))
    go (inl x) (inl y) (inl z) =
        let t : Placed = Form' p (More (Word' q name) ts) in
        let n : followers k t ≡ drop (length cs) (items ts) = ap (λ v. drop (fixed_count v) (items ts)) r in
        let s : items ts ≡ take (length cs) (items ts) ++ drop (length cs) (items ts) = sym (split (length cs) (items ts)) in
        let fit : FitsRow (Takes cs fs) (map bare (take (length cs) (items ts))) (map bare (drop (length cs) (items ts))) = (fixed_bare cs (take (length cs) (items ts)) x, y, z) in
        let P : FormRow → Type 0 = λ v. FitsRow v (map bare (take (length cs) (items ts))) (map bare (drop (length cs) (items ts))) in
        let e : bare t ≡ form (word name ∷ (map bare (take (length cs) (items ts)) ++ map bare (drop (length cs) (items ts)))) =
        ap (λ v. Form' tt (More (word name) v)) (sym (trees_bares ts) ∙ ap trees (ap (map bare) s ∙ map-append bare (take (length cs) (items ts)) (drop (length cs) (items ts)))) in
        let f : IsFormOf k (bare t) (map bare (take (length cs) (items ts))) (map bare (drop (length cs) (items ts))) = record { spelled = name; is = e; keyword = h; fits = subst P (sym r) fit } in
        let Q : List Placed → Type 0 = λ v. IsFormOf k (bare t) (map bare (take (length cs) (items ts))) (map bare v) in
        inl (record { fixed = take (length cs) (items ts); split = s ∙ ap (λ v. take (length cs) (items ts) ++ v) (sym n); choices = x; form = subst Q (sym n) f })

pub row_known : (k : Keyword) (cs : List (List Choice)) (fs : List Follower) (t : Placed) → row k ≡ Takes cs fs → has_keyword k (bare t) ≡ true → Fits k cs t ⊎ Faulty (RowFault k t)
row_known k cs fs (Form' p (More (Word' q name) ts)) r h = fits_known k cs fs p q name ts r h
row_known k cs fs (Form' p (More (Form' q us) ts)) r h = absurd (cc h)
row_known k cs fs (Form' p (More (Integer' q z) ts)) r h = absurd (cc h)
row_known k cs fs (Form' p (More (String' q s) ts)) r h = absurd (cc h)
row_known k cs fs (Form' p End) r h = absurd (cc h)
row_known k cs fs (Word' p w) r h = absurd (cc h)
row_known k cs fs (Integer' p z) r h = absurd (cc h)
row_known k cs fs (String' p s) r h = absurd (cc h)

-- what may be written
abbrev pub Written : Placed → Type 0
Written t = IsWritable (bare t)

items_written : (ts : Trees ℕ) → AreWritable (bares ts) → AllByRecursion Written (items ts)
items_written End h = tt
items_written (More t ts) h = (h.0, items_written ts h.1)

pub arguments_written : (t : Placed) → Written t → AllByRecursion Written (arguments t)
arguments_written (Form' p (More u ts)) h = items_written ts h.1
arguments_written (Form' p End) h = tt
arguments_written (Word' p w) h = tt
arguments_written (Integer' p z) h = tt
arguments_written (String' p s) h = tt

drop_all : {A : Type 0} (P : A → Type 0) (n : ℕ) (xs : List A) → AllByRecursion P xs → AllByRecursion P (drop n xs)
drop_all P zero xs h = h
drop_all P (suc n) [] h = tt
drop_all P (suc n) (x ∷ xs) h = drop_all P n xs h.1

pub followers_written : (k : Keyword) (t : Placed) → Written t → AllByRecursion Written (followers k t)
followers_written k t h = drop_all Written (fixed_count (row k)) (arguments t) (arguments_written t h)

-- a form of a keyword, that may be written
abbrev pub IsOf : (Bare → Bool) → Placed → Type 0
IsOf p t = (p (bare t) ≡ true) × Written t

pub kept_of : (p : Bare → Bool) (ts : List Placed) → AllByRecursion Written ts → AllByRecursion (IsOf p) (filter (λ u. p (bare u)) ts)
kept_of p [] h = tt
kept_of p (t ∷ ts) h = go (p (bare t)) refl (kept_of p ts h.1)
  where
    go : (b : Bool) → p (bare t) ≡ b → AllByRecursion (IsOf p) (filter (λ u. p (bare u)) ts) → AllByRecursion (IsOf p) (cond b (t ∷ filter (λ u. p (bare u)) ts) (filter (λ u. p (bare u)) ts))
    go true e r = ((e, h.0), r)
    go false e r = r

pub parts_of : (k j : Keyword) (t : Placed) → Written t → AllByRecursion (IsOf (has_keyword j)) (parts k j t)
parts_of k j t h = kept_of (has_keyword j) (followers k t) (followers_written k t h)

-- Lists of forms.
abbrev pub Meant : {A : Type 0} → (Bare → A → Type 0) → (A → Type 0) → Placed → Type 0
Meant {A} M V t = (x : A) × M (bare t) x × V x

pub each_known : {A : Type 0} (M : Bare → A → Type 0) (V : A → Type 0) (F : Placed → MeaningFault → Type 0) (P : Placed → Type 0) → ((t : Placed) → P t → Meant M V t ⊎ Faulty (F t))
    → (ts : List Placed) → AllByRecursion P ts → ((xs : List A) × Each M (map bare ts) xs × AllByRecursion V xs) ⊎ Faulty (Among F ts)
each_known M V F P f [] h = inl ([], tt, tt)
each_known {A} M V F P f (t ∷ ts) h = go (f t h.0) (each_known M V F P f ts h.1)
  where
    go : Meant M V t ⊎ Faulty (F t) → ((xs : List A) × Each M (map bare ts) xs × AllByRecursion V xs) ⊎ Faulty (Among F ts) → ((xs : List A) × Each M (map bare (t ∷ ts)) xs × AllByRecursion V xs) ⊎ Faulty (Among F (t ∷ ts))
    go (inr b) r = inr (b.0, inl b.1)
    go (inl x) (inr b) = inr (b.0, inr b.1)
    go (inl x) (inl r) = inl (x.0 ∷ r.0, (x.1, r.1), (x.2, r.2))

pub perhaps_known : {A : Type 0} (M : Bare → A → Type 0) (V : A → Type 0) (F : Placed → MeaningFault → Type 0) (P : Placed → Type 0) → ((t : Placed) → P t → Meant M V t ⊎ Faulty (F t))
    → (ts : List Placed) → AllByRecursion P ts → length ts ≤ 1 → ((o : Option A) × Perhaps M (map bare ts) o × IfSome o V) ⊎ Faulty (Among F ts)
perhaps_known M V F P f [] h l = inl (None, tt, tt)
perhaps_known M V F P f (t ∷ u ∷ ts) h l = absurd (omega arith)
perhaps_known {A} M V F P f (t ∷ []) h l = go (f t h.0)
  where
    go : Meant M V t ⊎ Faulty (F t) → ((o : Option A) × Perhaps M (map bare (t ∷ [])) o × IfSome o V) ⊎ Faulty (Among F (t ∷ []))
    go (inr b) = inr (b.0, inl b.1)
    go (inl x) = inl (Some x.0, x.1, x.2)

pub after_known : {A : Type 0} (M : List A → Bare → A → Type 0) (V : A → Type 0) (F : List A → Placed → MeaningFault → Type 0) (P : Placed → Type 0) → ((before : List A) (t : Placed) → P t → Meant (M before) V t ⊎ Faulty (F before t))
    → (before : List A) (ts : List Placed) → AllByRecursion P ts → ((xs : List A) × EachAfter M before (map bare ts) xs × AllByRecursion V xs) ⊎ Faulty (AmongAfter M F before ts)
after_known M V F P f before [] h = inl ([], tt, tt)
after_known {A} M V F P f before (t ∷ ts) h = go (f before t h.0) (λ b. after_known M V F P f b ts h.1)
  where
    more : (x : Meant (M before) V t) → ((xs : List A) × EachAfter M (before ++ x.0 ∷ []) (map bare ts) xs × AllByRecursion V xs) ⊎ Faulty (AmongAfter M F (before ++ x.0 ∷ []) ts)
        → ((xs : List A) × EachAfter M before (map bare (t ∷ ts)) xs × AllByRecursion V xs) ⊎ Faulty (AmongAfter M F before (t ∷ ts))
    more x (inl r) = inl (x.0 ∷ r.0, (x.1, r.1), (x.2, r.2))
    more x (inr b) = inr (b.0, inr (x.0, x.1, b.1))

    go : Meant (M before) V t ⊎ Faulty (F before t) → ((b : List A) → ((xs : List A) × EachAfter M b (map bare ts) xs × AllByRecursion V xs) ⊎ Faulty (AmongAfter M F b ts)) → ((xs : List A) × EachAfter M before (map bare (t ∷ ts)) xs × AllByRecursion V xs) ⊎ Faulty (AmongAfter M F before (t ∷ ts))
    go (inr b) r = inr (b.0, inl b.1)
    go (inl x) r = more x (r (before ++ x.0 ∷ []))

-- Limits.
beyond_at : (n : ℕ) (ts : List Placed) → (length ts ≤ n) ⊎ ((u : Placed) × (slice_get ts n ≡ Some u))
beyond_at n [] = inl (omega arith)
beyond_at zero (t ∷ ts) = inr (t, refl)
beyond_at (suc n) (t ∷ ts) = go (beyond_at n ts)
  where
    go : (length ts ≤ n) ⊎ ((u : Placed) × (slice_get ts n ≡ Some u)) → (length (t ∷ ts) ≤ suc n) ⊎ ((u : Placed) × (slice_get (t ∷ ts) (suc n) ≡ Some u))
    go (inl l) = inl (omega (arith, l))
    go (inr u) = inr u

pub beyond_known : (limit : ℕ) (ts : List Placed) → (length ts ≤ limit) ⊎ Faulty (Beyond limit ts)
beyond_known limit ts = go (beyond_at limit ts)
  where
    go : (length ts ≤ limit) ⊎ ((u : Placed) × (slice_get ts limit ≡ Some u)) → (length ts ≤ limit) ⊎ Faulty (Beyond limit ts)
    go (inl l) = inl l
    go (inr u) = inr (OverLimit limit (place_of u.0), (u.0, u.1, refl))

-- Values that differ.
differ_step : {A : Type 0} (x : A) (xs : List A) → All (λ y. x ≢ y) xs → AreDistinct xs → AreDistinct (x ∷ xs)
differ_step {A} x xs first rest = go
  where
    go : (i j : ℕ) (d : A) → i < j → j < length (x ∷ xs) → slice_index_or (x ∷ xs) i d ≢ slice_index_or (x ∷ xs) j d
    go i zero d l k = absurd (omega arith)
    go zero (suc j) d l k = first j d (omega arith)
    go (suc i) (suc j) d l k = rest i j d (omega arith) (omega arith)

pub differ_distinct : {A : Type 0} (xs : List A) → Differ xs → AreDistinct xs
differ_distinct [] h = λ i j d l k. absurd (omega arith)
differ_distinct (x ∷ xs) h = differ_step x xs (All-from_recursion (λ y. x ≢ y) xs h.0) (differ_distinct xs h.1)

-- forms whose values differ, or two with one value
other_known : {A B C : Type 0} (S : C → B → Type 0) (R : MeaningFault → C → C → Type 0) (g : A → B) → ((x y : B) → (x ≡ y) ⊎ (x ≢ y)) → ((a b : C) (x : B) → S a x → S b x → Faulty (λ f. R f a b))
    → (t : C) (x : B) → S t x → (ts : List C) (xs : List A) → AllZip (λ u y. S u (g y)) ts xs → AllByRecursion (λ y. x ≢ y) (map g xs) ⊎ Faulty (λ f. AtOne (R f t) ts)
other_known S R g same make t x s [] [] h = inl tt
other_known S R g same make t x s [] (y ∷ xs) h = absurd h
other_known S R g same make t x s (u ∷ ts) [] h = absurd h
other_known {A} {B} S R g same make t x s (u ∷ ts) (y ∷ xs) h = go (same x (g y)) (other_known S R g same make t x s ts xs h.1)
  where
    go : (x ≡ g y) ⊎ (x ≢ g y) → AllByRecursion (λ y. x ≢ y) (map g xs) ⊎ Faulty (λ f. AtOne (R f t) ts) → AllByRecursion (λ y. x ≢ y) (map g (y ∷ xs)) ⊎ Faulty (λ f. AtOne (R f t) (u ∷ ts))
    go (inl e) r = let P : B → Type 0 = λ v. S u v in let w = make t u x s (subst P (sym e) h.0) in inr (w.0, inl w.1)
    go (inr n) (inl r) = inl (n, r)
    go (inr n) (inr b) = inr (b.0, inr b.1)

two_known : {A B C : Type 0} (S : C → B → Type 0) (R : MeaningFault → C → C → Type 0) (g : A → B) → ((x y : B) → (x ≡ y) ⊎ (x ≢ y)) → ((a b : C) (x : B) → S a x → S b x → Faulty (λ f. R f a b))
    → (ts : List C) (xs : List A) → AllZip (λ u y. S u (g y)) ts xs → Differ (map g xs) ⊎ Faulty (λ f. AtTwo (R f) ts)
two_known S R g same make [] [] h = inl tt
two_known S R g same make [] (x ∷ xs) h = absurd h
two_known S R g same make (t ∷ ts) [] h = absurd h
two_known {A} {B} S R g same make (t ∷ ts) (x ∷ xs) h = go (other_known S R g same make t (g x) h.0 ts xs h.1) (two_known S R g same make ts xs h.1)
  where
    go : AllByRecursion (λ y. g x ≢ y) (map g xs) ⊎ Faulty (λ f. AtOne (R f t) ts) → Differ (map g xs) ⊎ Faulty (λ f. AtTwo (R f) ts) → Differ (map g (x ∷ xs)) ⊎ Faulty (λ f. AtTwo (R f) (t ∷ ts))
    go (inr b) r = inr (b.0, inl b.1)
    go (inl d) (inr b) = inr (b.0, inr b.1)
    go (inl d) (inl r) = inl (d, r)

pub distinct_known : {A B C : Type 0} (S : C → B → Type 0) (R : MeaningFault → C → C → Type 0) (g : A → B) → ((x y : B) → (x ≡ y) ⊎ (x ≢ y)) → ((a b : C) (x : B) → S a x → S b x → Faulty (λ f. R f a b))
    → (ts : List C) (xs : List A) → AllZip (λ u y. S u (g y)) ts xs → AreDistinct (map g xs) ⊎ Faulty (λ f. AtTwo (R f) ts)
distinct_known {A} {B} S R g same make ts xs h = go (two_known S R g same make ts xs h)
  where
    go : Differ (map g xs) ⊎ Faulty (λ f. AtTwo (R f) ts) → AreDistinct (map g xs) ⊎ Faulty (λ f. AtTwo (R f) ts)
    go (inl d) = inl (differ_distinct (map g xs) d)
    go (inr b) = inr b

-- equality of lists
pub list_same : {A : Type 0} → ((x y : A) → (x ≡ y) ⊎ (x ≢ y)) → (xs ys : List A) → (xs ≡ ys) ⊎ (xs ≢ ys)
list_same same [] [] = inl refl
list_same same [] (y ∷ ys) = inr (λ e. absurd (cc e))
list_same same (x ∷ xs) [] = inr (λ e. absurd (cc e))
list_same same (x ∷ xs) (y ∷ ys) = go (same x y) (list_same same xs ys)
  where
    go : (x ≡ y) ⊎ (x ≢ y) → (xs ≡ ys) ⊎ (xs ≢ ys) → (x ∷ xs ≡ y ∷ ys) ⊎ (x ∷ xs ≢ y ∷ ys)
    go (inl e) (inl d) = inl (λ i. e i ∷ d i)
    go (inr n) r = inr (λ w. let e : x ≡ y = cc w in n e)
    go (inl e) (inr n) = inr (λ w. let d : xs ≡ ys = cc w in n d)

pub nat_same : (x y : ℕ) → (x ≡ y) ⊎ (x ≢ y)
nat_same x y = go (nat_eq x y) refl
  where
    go : (b : Bool) → nat_eq x y ≡ b → (x ≡ y) ⊎ (x ≢ y)
    go true e = inl (grind (arith, nat_tests))
    go false e = inr (λ d. grind (arith, nat_tests))

pub bytes_same : (x y : List ℕ) → (x ≡ y) ⊎ (x ≢ y)
bytes_same x y = list_same nat_same x y

repeated : (a b : Placed) (x : List ℕ) → IsNamed a x → IsNamed b x → Faulty (λ f. SameName f a b)
repeated a b x h k = (Clash Duplicate k.0 h.0, (x, h.0, k.0, h.1, k.1, refl))

pub names_known : {A : Type 0} (g : A → List ℕ) (ts : List Placed) (xs : List A) → AllZip (λ u y. IsNamed u (g y)) ts xs → AreDistinct (map g xs) ⊎ Faulty (Repeats ts)
names_known g ts xs h = distinct_known IsNamed SameName g bytes_same repeated ts xs h

-- Choices.
pub word_choice : (u : Placed) → is_one_of (AnIdentifier ∷ []) (bare u) ≡ true → (p : ℕ) × (w : List ℕ) × (u ≡ Word' p w)
word_choice (Word' p w) h = (p, w, refl)
word_choice (Form' p ts) h = absurd (cc h)
word_choice (Integer' p z) h = absurd (cc h)
word_choice (String' p s) h = absurd (cc h)

pub integer_choice : (u : Placed) → is_one_of (AnInteger ∷ []) (bare u) ≡ true → (p : ℕ) × (z : ℤ) × (u ≡ Integer' p z)
integer_choice (Integer' p z) h = (p, z, refl)
integer_choice (Form' p ts) h = absurd (cc h)
integer_choice (Word' p w) h = absurd (cc h)
integer_choice (String' p s) h = absurd (cc h)

pub string_choice : (u : Placed) → is_one_of (AString ∷ []) (bare u) ≡ true → (p : ℕ) × (s : List ℕ) × (u ≡ String' p s)
string_choice (String' p s) h = (p, s, refl)
string_choice (Form' p ts) h = absurd (cc h)
string_choice (Word' p w) h = absurd (cc h)
string_choice (Integer' p z) h = absurd (cc h)

pub only : (b : Bool) → (b || false) ≡ true → b ≡ true
only true h = refl
only false h = absurd (cc h)

pub form_choice : (k : Keyword) (u : Placed) → is_one_of (AForm k ∷ []) (bare u) ≡ true → has_keyword k (bare u) ≡ true
form_choice k u h = only (has_keyword k (bare u)) h

-- A form with its fixed arguments, by their number.
pub record Fits0 (k : Keyword) (t : Placed) : Type 0 where
  pub form : IsFormOf k (bare t) [] (map bare (followers k t))
  pub all : arguments t ≡ followers k t

pub record Fits1 (k : Keyword) (c : List Choice) (t : Placed) : Type 0 where
  pub a : Placed
  pub at_a : slice_get (arguments t) 0 ≡ Some a
  pub is_a : is_one_of c (bare a) ≡ true
  pub written_a : Written a
  pub form : IsFormOf k (bare t) (bare a ∷ []) (map bare (followers k t))

pub record Fits2 (k : Keyword) (c d : List Choice) (t : Placed) : Type 0 where
  pub a : Placed
  pub b : Placed
  pub at_a : slice_get (arguments t) 0 ≡ Some a
  pub at_b : slice_get (arguments t) 1 ≡ Some b
  pub is_a : is_one_of c (bare a) ≡ true
  pub is_b : is_one_of d (bare b) ≡ true
  pub written_a : Written a
  pub written_b : Written b
  pub form : IsFormOf k (bare t) (bare a ∷ bare b ∷ []) (map bare (followers k t))

pub record Fits3 (k : Keyword) (c d e : List Choice) (t : Placed) : Type 0 where
  pub a : Placed
  pub b : Placed
  pub x : Placed
  pub at_a : slice_get (arguments t) 0 ≡ Some a
  pub at_b : slice_get (arguments t) 1 ≡ Some b
  pub at_x : slice_get (arguments t) 2 ≡ Some x
  pub is_a : is_one_of c (bare a) ≡ true
  pub is_b : is_one_of d (bare b) ≡ true
  pub is_x : is_one_of e (bare x) ≡ true
  pub written_a : Written a
  pub written_b : Written b
  pub written_x : Written x
  pub form : IsFormOf k (bare t) (bare a ∷ bare b ∷ bare x ∷ []) (map bare (followers k t))

fixed0 : (k : Keyword) (t : Placed) → Fits k [] t → Fits0 k t
fixed0 k t h = go h.fixed h.split h.choices h.form
  where
    go : (us : List Placed) → arguments t ≡ us ++ followers k t → AllZip (λ c u. is_one_of c (bare u) ≡ true) [] us → IsFormOf k (bare t) (map bare us) (map bare (followers k t)) → Fits0 k t
    go [] s c f = record { form = f; all = s }
    go (u ∷ us) s c f = absurd c

fixed1 : (k : Keyword) (c : List Choice) (t : Placed) → Written t → Fits k (c ∷ []) t → Fits1 k c t
fixed1 k c t w h = go h.fixed h.split h.choices h.form
  where
    go : (us : List Placed) → arguments t ≡ us ++ followers k t → AllZip (λ c u. is_one_of c (bare u) ≡ true) (c ∷ []) us → IsFormOf k (bare t) (map bare us) (map bare (followers k t)) → Fits1 k c t
    go [] s z f = absurd z
    go (a ∷ b ∷ us) s z f = absurd z.1
    go (a ∷ []) s z f =
        let P : List Placed → Type 0 = λ v. AllByRecursion Written v in
        let r = subst P s (arguments_written t w) in
        record { a = a; at_a = ap (λ v. slice_get v 0) s; is_a = z.0; written_a = r.0; form = f }

fixed2 : (k : Keyword) (c d : List Choice) (t : Placed) → Written t → Fits k (c ∷ d ∷ []) t → Fits2 k c d t
fixed2 k c d t w h = go h.fixed h.split h.choices h.form
  where
    go : (us : List Placed) → arguments t ≡ us ++ followers k t → AllZip (λ c u. is_one_of c (bare u) ≡ true) (c ∷ d ∷ []) us → IsFormOf k (bare t) (map bare us) (map bare (followers k t)) → Fits2 k c d t
    go [] s z f = absurd z
    go (a ∷ []) s z f = absurd z.1
    go (a ∷ b ∷ x ∷ us) s z f = absurd z.1.1
    go (a ∷ b ∷ []) s z f =
        let P : List Placed → Type 0 = λ v. AllByRecursion Written v in
        let r = subst P s (arguments_written t w) in
        record { a = a; b = b; at_a = ap (λ v. slice_get v 0) s; at_b = ap (λ v. slice_get v 1) s; is_a = z.0; is_b = z.1.0; written_a = r.0; written_b = r.1.0; form = f }

fixed3 : (k : Keyword) (c d e : List Choice) (t : Placed) → Written t → Fits k (c ∷ d ∷ e ∷ []) t → Fits3 k c d e t
fixed3 k c d e t w h = go h.fixed h.split h.choices h.form
  where
    go : (us : List Placed) → arguments t ≡ us ++ followers k t → AllZip (λ c u. is_one_of c (bare u) ≡ true) (c ∷ d ∷ e ∷ []) us → IsFormOf k (bare t) (map bare us) (map bare (followers k t)) → Fits3 k c d e t
    go [] s z f = absurd z
    go (a ∷ []) s z f = absurd z.1
    go (a ∷ b ∷ []) s z f = absurd z.1.1
    go (a ∷ b ∷ x ∷ y ∷ us) s z f = absurd z.1.1.1
    go (a ∷ b ∷ x ∷ []) s z f =
        let P : List Placed → Type 0 = λ v. AllByRecursion Written v in
        let r = subst P s (arguments_written t w) in
        record { a = a; b = b; x = x; at_a = ap (λ v. slice_get v 0) s; at_b = ap (λ v. slice_get v 1) s; at_x = ap (λ v. slice_get v 2) s; is_a = z.0; is_b = z.1.0; is_x = z.1.1.0; written_a = r.0; written_b = r.1.0; written_x = r.1.1.0; form = f }

onward : {A B : Type 0} {F : MeaningFault → Type 0} → (A → B) → A ⊎ Faulty F → B ⊎ Faulty F
onward f (inl a) = inl (f a)
onward f (inr b) = inr b

pub known0 : (k : Keyword) (fs : List Follower) (t : Placed) → row k ≡ Takes [] fs → has_keyword k (bare t) ≡ true → Fits0 k t ⊎ Faulty (RowFault k t)
known0 k fs t r h = onward {F = RowFault k t} (fixed0 k t) (row_known k [] fs t r h)

pub known1 : (k : Keyword) (c : List Choice) (fs : List Follower) (t : Placed) → row k ≡ Takes (c ∷ []) fs → IsOf (has_keyword k) t → Fits1 k c t ⊎ Faulty (RowFault k t)
known1 k c fs t r h = onward {F = RowFault k t} (fixed1 k c t h.1) (row_known k (c ∷ []) fs t r h.0)

pub known2 : (k : Keyword) (c d : List Choice) (fs : List Follower) (t : Placed) → row k ≡ Takes (c ∷ d ∷ []) fs → IsOf (has_keyword k) t → Fits2 k c d t ⊎ Faulty (RowFault k t)
known2 k c d fs t r h = onward {F = RowFault k t} (fixed2 k c d t h.1) (row_known k (c ∷ d ∷ []) fs t r h.0)

pub known3 : (k : Keyword) (c d e : List Choice) (fs : List Follower) (t : Placed) → row k ≡ Takes (c ∷ d ∷ e ∷ []) fs → IsOf (has_keyword k) t → Fits3 k c d e t ⊎ Faulty (RowFault k t)
known3 k c d e fs t r h = onward {F = RowFault k t} (fixed3 k c d e t h.1) (row_known k (c ∷ d ∷ e ∷ []) fs t r h.0)
