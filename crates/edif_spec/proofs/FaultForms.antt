-- A form that fits its row, seen with places: its parts, and that no breach of the row stands in it.
use Rattle.std.proofs.Common.{◌≡◌, ◌≢◌, ℕ, suc, ◌<◌, ◌≤◌, List, [], ◌∷◌, ◌++◌, map, length, refl, ap, sym, ◌∙◌, subst, inl, inr, Bool, true, false, Option, Some, None, arith}
use Rattle.std.specs.Prelude.{IsTrue, cond, filter, drop, slice_get, IfSome}
use Rattle.std.specs.List.{list_all, AllZip, AllByRecursion, All}
use Rattle.std.proofs.lemmas.List.Elements.{recursion_from_All}
use Rattle.std.proofs.lemmas.Option.{slice_get_within}
use Rattle.std.proofs.lemmas.List.{length-map}
use Rattle.netlist_schema.specs.Names.{AreDistinct}
use Rattle.netlist_schema.proofs.Lists.{drop_front, map_drop, get_mapped, get_unmapped, zip_length}
use Rattle.edif_spelling_spec.specs.Tree.{Bare, Placed, Trees, Form', Word', Integer', String', End, More, form, word, items, bare, bares}
use Rattle.edif_spec.specs.Keyword.{row, FormRow, Takes, Skips, Choice, Follower, Many, One}
use Rattle.edif_spec.specs.Rows.{has_keyword, those, is_one_of, is_follower, AtMostOnce, FitsRow, IsFormOf, Each, EachAfter, Perhaps, Just}
use Rattle.edif_spec.specs.Faults.{AtOne, AtTwo, place_of, arguments, fixed_count, followers, those_of, parts, Among, FixedFault, FollowerFault, SecondFault, second, Breaches, RowFault, token_kind, misplaced, Beyond, defined, SameName, Repeats}
use Rattle.edif_spec.specs.Stands.{AmongAfter}
use Rattle.edif_spec.specs.declared.keyword.Keyword.{Keyword}
use Rattle.edif_spec.specs.declared.fault.Kind.{Kind}
use Rattle.edif_spec.specs.declared.fault.MeaningFault.{MeaningFault}
use Rattle.edif_spec.specs.declared.fault.Kind.TheVariants.{BadForm}
use Rattle.edif_spec.proofs.Both.{both}
use Rattle.edif_spec.proofs.Once.{items_trees}

-- Lists.
pub items_bares : (ts : Trees ℕ) → items (bares ts) ≡ map bare (items ts)
items_bares End = refl
items_bares (More t ts) = ap (λ v. bare t ∷ v) (items_bares ts)

pub filter_bare : (p : Bare → Bool) (ts : List Placed) → map bare (filter (λ u. p (bare u)) ts) ≡ filter p (map bare ts)
filter_bare p [] = refl
filter_bare p (t ∷ ts) = go (p (bare t)) (filter_bare p ts)
  where
    go : (b : Bool) → map bare (filter (λ u. p (bare u)) ts) ≡ filter p (map bare ts) → map bare (cond b (t ∷ filter (λ u. p (bare u)) ts) (filter (λ u. p (bare u)) ts)) ≡ cond b (bare t ∷ filter p (map bare ts)) (filter p (map bare ts))
    go true e = ap (λ v. bare t ∷ v) e
    go false e = e

-- The arguments of a form.
behind : Bare → List Bare
behind (Form' p (More t ts)) = items ts
behind _ = []

behind_bare : (t : Placed) → behind (bare t) ≡ map bare (arguments t)
unfolding behind
behind_bare (Form' p End) = refl
behind_bare (Form' p (More t ts)) = items_bares ts
behind_bare (Word' p w) = refl
behind_bare (Integer' p z) = refl
behind_bare (String' p s) = refl

behind_form : (w : List ℕ) (ts : List Bare) → behind (form (word w ∷ ts)) ≡ ts
unfolding behind
behind_form w ts = items_trees ts

pub arguments_of_form : (w : List ℕ) (t : Placed) (ts : List Bare) → bare t ≡ form (word w ∷ ts) → map bare (arguments t) ≡ ts
arguments_of_form w t ts e = sym (behind_bare t) ∙ (ap behind e ∙ behind_form w ts)

pub arguments_are : (k : Keyword) (t : Placed) (fixed inner : List Bare) → IsFormOf k (bare t) fixed inner → map bare (arguments t) ≡ fixed ++ inner
arguments_are k t fixed inner h = arguments_of_form h.spelled t (fixed ++ inner) h.is

-- an argument of the form, without its place
pub part_is : (k : Keyword) (t : Placed) (fixed inner : List Bare) (i : ℕ) (u : Placed) (b : Bare) → IsFormOf k (bare t) fixed inner → slice_get (arguments t) i ≡ Some u → slice_get (fixed ++ inner) i ≡ Some b → bare u ≡ b
part_is k t fixed inner i u b h e f =
    let w : Some (bare u) ≡ Some b = sym (get_mapped bare (arguments t) i u e) ∙ (ap (λ v. slice_get v i) (arguments_are k t fixed inner h) ∙ f) in cc w

pub part_there : (k : Keyword) (t : Placed) (fixed inner : List Bare) (i : ℕ) (b : Bare) → IsFormOf k (bare t) fixed inner → slice_get (fixed ++ inner) i ≡ Some b → (u : Placed) × (slice_get (arguments t) i ≡ Some u) × (bare u ≡ b)
part_there k t fixed inner i b h f = get_unmapped bare (arguments t) i b (ap (λ v. slice_get v i) (arguments_are k t fixed inner h) ∙ f)

fits_count : (r : FormRow) (fixed inner : List Bare) → FitsRow r fixed inner → fixed_count r ≡ length fixed
fits_count Skips fixed inner h = sym (ap length h)
fits_count (Takes cs fs) fixed inner h = zip_length (λ cs t. IsTrue (is_one_of cs t)) cs fixed h.0

dropped : (n : ℕ) (ts : List Placed) (fixed inner : List Bare) → map bare ts ≡ fixed ++ inner → n ≡ length fixed → map bare (drop n ts) ≡ inner
dropped n ts fixed inner e l = map_drop bare n ts ∙ (ap (drop n) e ∙ (ap (λ v. drop v (fixed ++ inner)) l ∙ drop_front fixed inner))

pub followers_are : (k : Keyword) (t : Placed) (fixed inner : List Bare) → IsFormOf k (bare t) fixed inner → map bare (followers k t) ≡ inner
followers_are k t fixed inner h = dropped (fixed_count (row k)) (arguments t) fixed inner (arguments_are k t fixed inner h) (fits_count (row k) fixed inner h.fits)

pub parts_are : (k j : Keyword) (t : Placed) (fixed inner : List Bare) → IsFormOf k (bare t) fixed inner → map bare (parts k j t) ≡ those j inner
parts_are k j t fixed inner h = filter_bare (has_keyword j) (followers k t) ∙ ap (those j) (followers_are k t fixed inner h)

-- No breach of a row stands in a form that fits it.
pub none_of_one : {A : Type 0} (P : A → Type 0) (xs : List A) → ((x : A) → P x → ⊥) → AtOne P xs → ⊥
none_of_one P [] n h = h
none_of_one P (x ∷ xs) n (inl h) = n x h
none_of_one P (x ∷ xs) n (inr h) = none_of_one P xs n h

pub none_of_two : {A : Type 0} (R : A → A → Type 0) (xs : List A) → length xs ≤ 1 → AtTwo R xs → ⊥
none_of_two R [] l h = h
none_of_two R (x ∷ []) l (inl h) = h
none_of_two R (x ∷ []) l (inr h) = h
none_of_two R (x ∷ y ∷ xs) l h = omega arith

pub fixed_apart : (wrong : Placed → MeaningFault) (place : ℕ) (cs : List (List Choice)) (ts : List Placed) (fixed inner : List Bare) (f : MeaningFault)
    → map bare ts ≡ fixed ++ inner → AllZip (λ cs t. IsTrue (is_one_of cs t)) cs fixed → FixedFault wrong place cs ts f → ⊥
fixed_apart wrong place [] ts fixed inner f e h b = b
fixed_apart wrong place (c ∷ cs) ts [] inner f e h b = absurd h
fixed_apart wrong place (c ∷ cs) [] (x ∷ fixed) inner f e h b = absurd (cc e)
fixed_apart wrong place (c ∷ cs) (t ∷ ts) (x ∷ fixed) inner f e h (inl b) =
    let w : bare t ≡ x = cc e in let yes' : is_one_of c (bare t) ≡ true = ap (is_one_of c) w ∙ h.0 in let no' : is_one_of c (bare t) ≡ false = b.0 in absurd (cc)
fixed_apart wrong place (c ∷ cs) (t ∷ ts) (x ∷ fixed) inner f e h (inr b) = let w : map bare ts ≡ fixed ++ inner = cc e in fixed_apart wrong place cs ts fixed inner f w h.1 b

pub followers_apart : (wrong : Placed → MeaningFault) (fs : List Follower) (ts : List Placed) (f : MeaningFault) → IsTrue (list_all (is_follower fs) (map bare ts)) → FollowerFault wrong fs ts f → ⊥
followers_apart wrong fs [] f h b = b
followers_apart wrong fs (t ∷ ts) f h (inl b) = let yes' : is_follower fs (bare t) ≡ true = (both (is_follower fs (bare t)) (list_all (is_follower fs) (map bare ts)) h).0 in let no' : is_follower fs (bare t) ≡ false = b.0 in absurd (cc)
followers_apart wrong fs (t ∷ ts) f h (inr b) = followers_apart wrong fs ts f (both (is_follower fs (bare t)) (list_all (is_follower fs) (map bare ts)) h).1 b

pub seconds_apart : (fs : List Follower) (ts : List Placed) (f : MeaningFault) → AtMostOnce fs (map bare ts) → SecondFault fs ts f → ⊥
seconds_apart [] ts f h b = b
seconds_apart (Many k ∷ fs) ts f h b = seconds_apart fs ts f h b
seconds_apart (One k ∷ fs) ts f h (inl b) =
    let l : length (those_of k ts) ≡ length (those k (map bare ts)) = sym (length-map (those_of k ts) bare) ∙ ap length (filter_bare (has_keyword k) ts) in
    let m : length (those k (map bare ts)) ≤ 1 = h.0 in
    none_of_two (λ x y. f ≡ second k x y) (those_of k ts) (omega (arith, l, m)) b
seconds_apart (One k ∷ fs) ts f h (inr b) = seconds_apart fs ts f h.1 b

breaches_apart : (kind : Kind) (r : FormRow) (t : Placed) (fixed inner : List Bare) (f : MeaningFault) → map bare (arguments t) ≡ fixed ++ inner → FitsRow r fixed inner → Breaches kind r t f → ⊥
breaches_apart kind Skips t fixed inner f e h b = b
breaches_apart kind (Takes cs fs) t fixed inner f e h b =
    let rest : map bare (drop (length cs) (arguments t)) ≡ inner = dropped (length cs) (arguments t) fixed inner e (zip_length (λ cs t. IsTrue (is_one_of cs t)) cs fixed h.0) in
    let follows : IsTrue (list_all (is_follower fs) (map bare (drop (length cs) (arguments t)))) = ap (list_all (is_follower fs)) rest ∙ h.1 in
    let P : List Bare → Type 0 = λ v. AtMostOnce fs v in
    let once : AtMostOnce fs (map bare (drop (length cs) (arguments t))) = subst P (sym rest) h.2 in
    go follows once b
  where
    go : IsTrue (list_all (is_follower fs) (map bare (drop (length cs) (arguments t)))) → AtMostOnce fs (map bare (drop (length cs) (arguments t))) → Breaches kind (Takes cs fs) t f → ⊥
    go follows once (inl b) = fixed_apart (misplaced kind (Takes cs fs)) (place_of t) cs (arguments t) fixed inner f e h.0 b
    go follows once (inr (inl b)) = followers_apart (misplaced BadForm (Takes cs fs)) fs (drop (length cs) (arguments t)) f follows b
    go follows once (inr (inr b)) = seconds_apart fs (drop (length cs) (arguments t)) f once b

pub row_apart : (k : Keyword) (t : Placed) (fixed inner : List Bare) (f : MeaningFault) → IsFormOf k (bare t) fixed inner → RowFault k t f → ⊥
row_apart k t fixed inner f h b = breaches_apart (token_kind k) (row k) t fixed inner f (arguments_are k t fixed inner h) h.fits b

-- Lists of forms and of their meanings.
pub each_apart : {A : Type 0} (M : Bare → A → Type 0) (V : A → Type 0) (F : Placed → MeaningFault → Type 0) (f : MeaningFault) → ((t : Placed) (x : A) → M (bare t) x → V x → F t f → ⊥)
    → (ts : List Placed) (bs : List Bare) (xs : List A) → map bare ts ≡ bs → Each M bs xs → AllByRecursion V xs → Among F ts f → ⊥
each_apart M V F f n [] bs xs e h v b = b
each_apart M V F f n (t ∷ ts) [] xs e h v b = absurd (cc e)
each_apart M V F f n (t ∷ ts) (u ∷ bs) [] e h v b = absurd h
each_apart M V F f n (t ∷ ts) (u ∷ bs) (x ∷ xs) e h v (inl b) = let w : bare t ≡ u = cc e in n t x (subst (λ y. M y x) (sym w) h.0) v.0 b
each_apart M V F f n (t ∷ ts) (u ∷ bs) (x ∷ xs) e h v (inr b) = let w : map bare ts ≡ bs = cc e in each_apart M V F f n ts bs xs w h.1 v.1 b

pub perhaps_apart : {A : Type 0} (M : Bare → A → Type 0) (V : A → Type 0) (F : Placed → MeaningFault → Type 0) (f : MeaningFault) → ((t : Placed) (x : A) → M (bare t) x → V x → F t f → ⊥)
    → (ts : List Placed) (bs : List Bare) (o : Option A) → map bare ts ≡ bs → Perhaps M bs o → IfSome o V → Among F ts f → ⊥
perhaps_apart M V F f n [] bs o e h v b = b
perhaps_apart M V F f n (t ∷ ts) [] o e h v b = absurd (cc e)
perhaps_apart M V F f n (t ∷ ts) (u ∷ []) None e h v b = absurd h
perhaps_apart M V F f n (t ∷ []) (u ∷ []) (Some x) e h v (inl b) = let w : bare t ≡ u = cc e in n t x (subst (λ y. M y x) (sym w) h) v b
perhaps_apart M V F f n (t ∷ []) (u ∷ []) (Some x) e h v (inr b) = b
perhaps_apart M V F f n (t ∷ s ∷ ts) (u ∷ []) (Some x) e h v b = absurd (cc e)
perhaps_apart M V F f n (t ∷ ts) (u ∷ w ∷ bs) o e h v b = absurd h

pub just_apart : {A : Type 0} (M : Bare → A → Type 0) (F : Placed → MeaningFault → Type 0) (f : MeaningFault) (x : A) → ((t : Placed) → M (bare t) x → F t f → ⊥)
    → (ts : List Placed) (bs : List Bare) → map bare ts ≡ bs → Just M bs x → Among F ts f → ⊥
just_apart M F f x n [] bs e h b = b
just_apart M F f x n (t ∷ ts) [] e h b = absurd h
just_apart M F f x n (t ∷ []) (u ∷ []) e h (inl b) = let w : bare t ≡ u = cc e in n t (subst (λ y. M y x) (sym w) h) b
just_apart M F f x n (t ∷ []) (u ∷ []) e h (inr b) = b
just_apart M F f x n (t ∷ s ∷ ts) (u ∷ []) e h b = absurd (cc e)
just_apart M F f x n (t ∷ ts) (u ∷ w ∷ bs) e h b = absurd h

pub after_apart : {A : Type 0} (M : List A → Bare → A → Type 0) (V : A → Type 0) (F : List A → Placed → MeaningFault → Type 0) (f : MeaningFault)
    → ((b : List A) (t : Placed) (x : A) → M b (bare t) x → V x → F b t f → ⊥) → ((b : List A) (t : Bare) (x y : A) → M b t x → M b t y → x ≡ y)
    → (before : List A) (ts : List Placed) (bs : List Bare) (xs : List A) → map bare ts ≡ bs → EachAfter M before bs xs → AllByRecursion V xs → AmongAfter M F before ts f → ⊥
after_apart M V F f n once before [] bs xs e h v b = b
after_apart M V F f n once before (t ∷ ts) [] xs e h v b = absurd (cc e)
after_apart M V F f n once before (t ∷ ts) (u ∷ bs) [] e h v b = absurd h
after_apart M V F f n once before (t ∷ ts) (u ∷ bs) (x ∷ xs) e h v (inl b) = let w : bare t ≡ u = cc e in n before t x (subst (λ y. M before y x) (sym w) h.0) v.0 b
after_apart {A} M V F f n once before (t ∷ ts) (u ∷ bs) (x ∷ xs) e h v (inr b) =
    let w : bare t ≡ u = cc e in let r : map bare ts ≡ bs = cc e in
    let s : b.0 ≡ x = once before (bare t) b.0 x b.1 (subst (λ y. M before y x) (sym w) h.0) in
    let P : A → Type 0 = λ y. AmongAfter M F (before ++ y ∷ []) ts f in
    after_apart M V F f n once (before ++ x ∷ []) ts bs xs r h.1 v.1 (subst P s b.2)

pub each_length : {A : Type 0} (M : Bare → A → Type 0) (ts : List Bare) (xs : List A) → Each M ts xs → length ts ≡ length xs
each_length M [] [] h = refl
each_length M [] (x ∷ xs) h = absurd h
each_length M (t ∷ ts) [] h = absurd h
each_length M (t ∷ ts) (x ∷ xs) h = ap suc (each_length M ts xs h.1)

pub after_length : {A : Type 0} (M : List A → Bare → A → Type 0) (before : List A) (ts : List Bare) (xs : List A) → EachAfter M before ts xs → length ts ≡ length xs
after_length M before [] [] h = refl
after_length M before [] (x ∷ xs) h = absurd h
after_length M before (t ∷ ts) [] h = absurd h
after_length M before (t ∷ ts) (x ∷ xs) h = ap suc (after_length M (before ++ x ∷ []) ts xs h.1)

pub beyond_apart : (limit : ℕ) (ts : List Placed) (f : MeaningFault) → length ts ≤ limit → Beyond limit ts f → ⊥
beyond_apart limit ts f l b = let m : limit < length ts = slice_get_within ts limit b.0 b.1 in omega (arith, l, m)

-- Lists whose elements differ, by recursion.
abbrev pub Differ : {A : Type 0} → List A → Type 0
Differ [] = Unit {0}
Differ (x ∷ xs) = AllByRecursion (λ y. x ≢ y) xs × Differ xs

pub differ : {A : Type 0} (xs : List A) → AreDistinct xs → Differ xs
differ [] h = tt
differ {A} (x ∷ xs) h =
    let first : All (λ y. x ≢ y) xs = λ k d l. h 0 (suc k) d (omega arith) (omega arith) in
    let rest : AreDistinct xs = λ i j d l k. h (suc i) (suc j) d (omega arith) (omega arith) in
    (recursion_from_All (λ y. x ≢ y) xs first, differ xs rest)

-- forms that have values which differ: no two of them have one value
one_other : {A B C : Type 0} (S : C → B → Type 0) (R : C → C → Type 0) (g : A → B) → ((a b : C) (x y : B) → S a x → S b y → R a b → x ≡ y)
    → (t : C) (x : A) → S t (g x) → (ts : List C) (xs : List A) → AllZip (λ u y. S u (g y)) ts xs → AllByRecursion (λ y. g x ≢ y) (map g xs) → AtOne (R t) ts → ⊥
one_other S R g same t x s [] xs h d b = b
one_other S R g same t x s (u ∷ ts) [] h d b = absurd h
one_other S R g same t x s (u ∷ ts) (y ∷ xs) h d (inl b) = d.0 (same t u (g x) (g y) s h.0 b)
one_other S R g same t x s (u ∷ ts) (y ∷ xs) h d (inr b) = one_other S R g same t x s ts xs h.1 d.1 b

pub two_apart : {A B C : Type 0} (S : C → B → Type 0) (R : C → C → Type 0) (g : A → B) → ((a b : C) (x y : B) → S a x → S b y → R a b → x ≡ y)
    → (ts : List C) (xs : List A) → AllZip (λ u y. S u (g y)) ts xs → Differ (map g xs) → AtTwo R ts → ⊥
two_apart S R g same [] xs h d b = b
two_apart S R g same (t ∷ ts) [] h d b = absurd h
two_apart S R g same (t ∷ ts) (x ∷ xs) h d (inl b) = one_other S R g same t x h.0 ts xs h.1 d.0 b
two_apart S R g same (t ∷ ts) (x ∷ xs) h d (inr b) = two_apart S R g same ts xs h.1 d.1 b

-- what each of a list of forms means, seen with places
pub each_with : {A : Type 0} (M : Bare → A → Type 0) (S : Placed → A → Type 0) → ((t : Placed) (x : A) → M (bare t) x → S t x) → (ts : List Placed) (bs : List Bare) (xs : List A) → map bare ts ≡ bs → Each M bs xs → AllZip S ts xs
each_with M S f [] [] [] e h = tt
each_with M S f [] [] (x ∷ xs) e h = absurd h
each_with M S f [] (u ∷ bs) xs e h = absurd (cc e)
each_with M S f (t ∷ ts) [] xs e h = absurd (cc e)
each_with M S f (t ∷ ts) (u ∷ bs) [] e h = absurd h
each_with M S f (t ∷ ts) (u ∷ bs) (x ∷ xs) e h = let w : bare t ≡ u = cc e in let r : map bare ts ≡ bs = cc e in (f t x (subst (λ y. M y x) (sym w) h.0), each_with M S f ts bs xs r h.1)

pub after_with : {A : Type 0} (M : List A → Bare → A → Type 0) (S : Placed → A → Type 0) → ((b : List A) (t : Placed) (x : A) → M b (bare t) x → S t x) → (before : List A) (ts : List Placed) (bs : List Bare) (xs : List A) → map bare ts ≡ bs → EachAfter M before bs xs → AllZip S ts xs
after_with M S f before [] [] [] e h = tt
after_with M S f before [] [] (x ∷ xs) e h = absurd h
after_with M S f before [] (u ∷ bs) xs e h = absurd (cc e)
after_with M S f before (t ∷ ts) [] xs e h = absurd (cc e)
after_with M S f before (t ∷ ts) (u ∷ bs) [] e h = absurd h
after_with M S f before (t ∷ ts) (u ∷ bs) (x ∷ xs) e h = let w : bare t ≡ u = cc e in let r : map bare ts ≡ bs = cc e in (f before t x (subst (λ y. M before y x) (sym w) h.0), after_with M S f (before ++ x ∷ []) ts bs xs r h.1)

-- the name that a form defines
abbrev pub IsNamed : Placed → List ℕ → Type 0
IsNamed t name = (p : ℕ) × (defined t ≡ Some (name, p))

pub first_same : (a b : List ℕ × ℕ) → Some a ≡ Some b → a.0 ≡ b.0
first_same a b e = let w : a ≡ b = cc e in ap (λ v. v.0) w

same_name : (f : MeaningFault) (a b : Placed) (x y : List ℕ) → IsNamed a x → IsNamed b y → SameName f a b → x ≡ y
same_name f a b x y h k s =
    let u : Some (x, h.0) ≡ Some (s.0, s.1) = sym h.1 ∙ s.3 in
    let v : Some (y, k.0) ≡ Some (s.0, s.2) = sym k.1 ∙ s.4 in
    first_same (x, h.0) (s.0, s.1) u ∙ sym (first_same (y, k.0) (s.0, s.2) v)

pub repeats_apart : {A : Type 0} (g : A → List ℕ) (f : MeaningFault) (ts : List Placed) (xs : List A) → AllZip (λ u y. IsNamed u (g y)) ts xs → AreDistinct (map g xs) → Repeats ts f → ⊥
repeats_apart g f ts xs h d b = two_apart IsNamed (SameName f) g (same_name f) ts xs h (differ (map g xs) d) b
