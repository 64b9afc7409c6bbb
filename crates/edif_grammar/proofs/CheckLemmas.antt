-- Steps of the checks of a row.
use Rattle.std.proofs.Common.{◌≡◌, ℕ, zero, suc, ◌+◌, ◌<◌, ◌≤◌, List, [], ◌∷◌, ◌++◌, map, length, drop, get_or, refl, sym, ap, ◌∙◌, subst, inl, inr, Bool, true, false, Some, arith, nat_eq}
use Rattle.std.specs.Prelude.{cond, slice_get}
use Rattle.std.specs.List.{AllByRecursion}
use Rattle.edif_spelling_spec.specs.Tree.{Placed, bare}
use Rattle.edif_spec.specs.Keyword.{row, FormRow, Takes, Choice, Follower, Many, One}
use Rattle.edif_spec.specs.Rows.{has_keyword, is_one_of, is_follower}
use Rattle.edif_spec.specs.Faults.{AtOne, AtTwo, FixedFault, FollowerFault, SecondFault, second, those_of, misplaced, place_of, arguments, Breaches, RowFault, token_kind}
use Rattle.edif_spec.specs.declared.keyword.Keyword.{Keyword}
use Rattle.edif_spec.specs.declared.keyword.Keyword.TheVariants as keywords
use Rattle.edif_spec.specs.declared.fault.Kind.{Kind}
use Rattle.edif_spec.specs.declared.fault.Kind.TheVariants.{BadForm}
use Rattle.edif_spec.specs.declared.fault.MeaningFault.{MeaningFault}
use Rattle.edif_spec.specs.declared.fault.MeaningFault.TheVariants.{At}
use Rattle.edif_spec.proofs.FaultForms.{none_of_two}
use Rattle.edif_grammar.specs.Forms.{HasOwnKind}
use Rattle.edif_grammar.specs.Rules.{choices, is_plain}
use Rattle.edif_grammar.specs.declared.rules.FixedArgument.{FixedArgument}
use Rattle.std.proofs.lemmas.List.{length-map}
use Rattle.edif_grammar.specs.Checks.{ArgumentFits, FixedFits, OnceFits}
use Rattle.edif_grammar.proofs.FormLemmas.{second_plain}

-- What holds below a place, and at it, holds below the next.
pub below_next : {A B : Type 0} (P : A → B → Type 0) (xs : List A) (ys : List B) (i : ℕ) (x : A) (y : B) → slice_get xs i ≡ Some x → slice_get ys i ≡ Some y → P x y
    → ((j : ℕ) (a : A) (b : B) → j < i → slice_get xs j ≡ Some a → slice_get ys j ≡ Some b → P a b) → (j : ℕ) (a : A) (b : B) → j < i + 1 → slice_get xs j ≡ Some a → slice_get ys j ≡ Some b → P a b
below_next {A} {B} P xs ys i x y ex ey p h j a b l ea eb = go (nat_eq j i) refl
  where
    go : (v : Bool) → nat_eq j i ≡ v → P a b
    go true e =
        let same : j ≡ i = grind arith in
        let u : Some a ≡ Some x = sym ea ∙ (ap (slice_get xs) same ∙ ex) in
        let w : Some b ≡ Some y = sym eb ∙ (ap (slice_get ys) same ∙ ey) in
        let u' : x ≡ a = cc u in let w' : y ≡ b = cc w in
        let Q : A → Type 0 = λ v. P v b in
        let R : B → Type 0 = λ v. P x v in subst Q u' (subst R w' p)
    go false e = let m : j < i = grind arith in h j a b m ea eb

-- the same of one list
pub each_next : {A : Type 0} (P : A → Type 0) (xs : List A) (i : ℕ) (x : A) → slice_get xs i ≡ Some x → P x → ((j : ℕ) (a : A) → j < i → slice_get xs j ≡ Some a → P a) → (j : ℕ) (a : A) → j < i + 1 → slice_get xs j ≡ Some a → P a
each_next P xs i x ex p h = λ j a l ea. below_next (λ u v. P u) xs xs i x x ex ex p (λ j a b l ea eb. h j a l ea) j a a l ea ea

-- Seconds.
abbrev pub IsSeen : Bool → List Placed → Type 0
IsSeen false ts = ts ≡ []
IsSeen true ts = (t : Placed) × (ts ≡ t ∷ [])

pub map_get : {A B : Type 0} (f : A → B) (xs : List A) (i : ℕ) (d : A) → i < length xs → slice_get (map f xs) i ≡ Some (f (get_or xs i d))
map_get f [] i d l = absurd (omega arith)
map_get f (x ∷ xs) zero d l = refl
map_get f (x ∷ xs) (suc i) d l = map_get f xs i d (omega arith)

kept : (b : Bool) (x : Placed) (xs : List Placed) → b ≡ true → cond b (x ∷ xs) xs ≡ x ∷ xs
kept true x xs e = refl
kept false x xs e = absurd (cc e)

skipped : (b : Bool) (x : Placed) (xs : List Placed) → b ≡ false → cond b (x ∷ xs) xs ≡ xs
skipped true x xs e = absurd (cc e)
skipped false x xs e = refl

-- one that has the keyword, and one that has not, where the rest begins
pub take_one : (k : Keyword) (us ts : List Placed) (t : Placed) → us ≡ t ∷ ts → has_keyword k (bare t) ≡ true → those_of k us ≡ t ∷ those_of k ts
take_one k us ts t e h = ap (those_of k) e ∙ kept (has_keyword k (bare t)) t (those_of k ts) h

pub skip_one : (k : Keyword) (us ts : List Placed) (t : Placed) → us ≡ t ∷ ts → has_keyword k (bare t) ≡ false → those_of k us ≡ those_of k ts
skip_one k us ts t e h = ap (those_of k) e ∙ skipped (has_keyword k (bare t)) t (those_of k ts) h

-- what is seen grows by one
pub first_seen : (b : Bool) (before all rest : List Placed) (t : Placed) → b ≡ false → IsSeen b before → all ≡ before ++ t ∷ rest → all ≡ (t ∷ []) ++ rest
first_seen true before all rest t e s h = absurd (cc e)
first_seen false before all rest t e s h = h ∙ ap (λ v. v ++ t ∷ rest) s

pub second_seen : (b : Bool) (before all rest : List Placed) (t : Placed) (f : MeaningFault) → b ≡ true → IsSeen b before → all ≡ before ++ t ∷ rest → f ≡ At BadForm (place_of t) → AtTwo (λ x y. f ≡ At BadForm (place_of y)) all
second_seen false before all rest t f e s h p = absurd (cc e)
second_seen true before all rest t f e s h p =
    let P : List Placed → Type 0 = λ v. AtTwo (λ x y. f ≡ At BadForm (place_of y)) v in
    subst P (sym (h ∙ ap (λ v. v ++ t ∷ rest) s.1)) (inl (inl p))

pub seen_once : (k : Keyword) (b : Bool) (before ts us : List Placed) → IsSeen b before → us ≡ [] → those_of k ts ≡ before ++ those_of k us → length (those_of k ts) ≤ 1
seen_once k b before ts us s l h = go b before s (h ∙ ap (λ v. before ++ those_of k v) l)
  where
    go : (b : Bool) (before : List Placed) → IsSeen b before → those_of k ts ≡ before ++ [] → length (those_of k ts) ≤ 1
    go false before s e = let q = ap length (e ∙ ap (λ v. v ++ []) s) in omega (arith, q)
    go true before s e = let q = ap length (e ∙ ap (λ v. v ++ []) s.1) in omega (arith, q)

-- One that is left may follow, or is a fault.
pub follows_too : (fs : List Follower) (us ts : List Placed) (t : Placed) → us ≡ t ∷ ts → is_follower fs (bare t) ≡ true → AllByRecursion (λ u. is_follower fs (bare u) ≡ true) ts → AllByRecursion (λ u. is_follower fs (bare u) ≡ true) us
follows_too fs us ts t e h k = let P : List Placed → Type 0 = λ v. AllByRecursion (λ u. is_follower fs (bare u) ≡ true) v in subst P (sym e) (h, k)

pub fault_first : (wrong : Placed → MeaningFault) (fs : List Follower) (us ts : List Placed) (t : Placed) (f : MeaningFault) → us ≡ t ∷ ts → is_follower fs (bare t) ≡ false → f ≡ wrong t → FollowerFault wrong fs us f
fault_first wrong fs us ts t f e h q = let P : List Placed → Type 0 = λ v. FollowerFault wrong fs v f in subst P (sym e) (inl (h, q))

pub fault_later : (wrong : Placed → MeaningFault) (fs : List Follower) (us ts : List Placed) (t : Placed) (f : MeaningFault) → us ≡ t ∷ ts → FollowerFault wrong fs ts f → FollowerFault wrong fs us f
fault_later wrong fs us ts t f e b = let P : List Placed → Type 0 = λ v. FollowerFault wrong fs v f in subst P (sym e) (inr b)

-- Faults at a place.
pub fixed_at : (wrong : Placed → MeaningFault) (place : ℕ) (cs : List (List Choice)) (ts : List Placed) (i : ℕ) (c : List Choice) (t : Placed) (f : MeaningFault) → slice_get cs i ≡ Some c → slice_get ts i ≡ Some t → is_one_of c (bare t) ≡ false → f ≡ wrong t
    → FixedFault wrong place cs ts f
fixed_at wrong place [] ts i c t f e g n q = absurd (cc e)
fixed_at wrong place (d ∷ cs) [] i c t f e g n q = absurd (cc g)
fixed_at wrong place (d ∷ cs) (u ∷ ts) zero c t f e g n q =
    let a : d ≡ c = cc e in let b : u ≡ t = cc g in
    inl (ap (λ v. is_one_of v (bare u)) a ∙ (ap (λ v. is_one_of c (bare v)) b ∙ n), q ∙ ap wrong (sym b))
fixed_at wrong place (d ∷ cs) (u ∷ ts) (suc i) c t f e g n q = inr (fixed_at wrong place cs ts i c t f e g n q)

pub too_few : (wrong : Placed → MeaningFault) (place : ℕ) (cs : List (List Choice)) (ts : List Placed) → length ts < length cs → FixedFault wrong place cs ts (At BadForm place)
too_few wrong place [] ts l = absurd (omega arith)
too_few wrong place (c ∷ cs) [] l = refl
too_few wrong place (c ∷ cs) (t ∷ ts) l = inr (too_few wrong place cs ts (omega arith))

pub both_weaker : {A : Type 0} (R S : A → A → Type 0) (xs : List A) → ((x y : A) → R x y → S x y) → AtTwo R xs → AtTwo S xs
both_weaker R S [] f h = h
both_weaker R S (x ∷ xs) f (inl h) = inl (one_weaker (R x) (S x) xs (f x) h)
  where
    one_weaker : {A : Type 0} (P Q : A → Type 0) (xs : List A) → ((x : A) → P x → Q x) → AtOne P xs → AtOne Q xs
    one_weaker P Q [] f h = h
    one_weaker P Q (x ∷ xs) f (inl h) = inl (f x h)
    one_weaker P Q (x ∷ xs) f (inr h) = inr (one_weaker P Q xs f h)
both_weaker R S (x ∷ xs) f (inr h) = inr (both_weaker R S xs f h)

second_own : (k : Keyword) (a b : Placed) → is_plain k ≡ false → HasOwnKind (second k a b)
second_own keywords.View a b h = tt
second_own keywords.Design a b h = tt
second_own _ a b h = absurd (cc h)

pub second_at : (fs : List Follower) (ts : List Placed) (i : ℕ) (k : Keyword) (f : MeaningFault) → slice_get fs i ≡ Some (One k) → is_plain k ≡ true → AtTwo (λ x y. f ≡ At BadForm (place_of y)) (those_of k ts) → SecondFault fs ts f
second_at [] ts i k f e p h = absurd (cc e)
second_at (Many j ∷ fs) ts zero k f e p h = absurd (cc e)
second_at (One j ∷ fs) ts zero k f e p h =
    let w : j ≡ k = cc e in
    let P : Keyword → Type 0 = λ v. AtTwo (λ x y. f ≡ second v x y) (those_of v ts) in
    inl (subst P (sym w) (both_weaker (λ x y. f ≡ At BadForm (place_of y)) (λ x y. f ≡ second k x y) (those_of k ts) (λ x y q. q ∙ sym (second_plain k x y p)) h))
second_at (Many j ∷ fs) ts (suc i) k f e p h = second_at fs ts i k f e p h
second_at (One j ∷ fs) ts (suc i) k f e p h = inr (second_at fs ts i k f e p h)

-- What passes has no fault but of a kind of its own.
fixed_own : (kind : Kind) (r : FormRow) (place : ℕ) (cs : List (List Choice)) (ts : List Placed) (f : MeaningFault) → FixedFits kind r cs ts → length cs ≤ length ts → FixedFault (misplaced kind r) place cs ts f → HasOwnKind f
fixed_own kind r place [] ts f h l b = absurd b
fixed_own kind r place (c ∷ cs) [] f h l b = absurd (omega arith)
fixed_own kind r place (c ∷ cs) (t ∷ ts) f h l (inl b) = go (h 0 c t refl refl)
  where
    go : ArgumentFits kind r c t → HasOwnKind f
    go (inl e) = absurd (let w : true ≡ false = sym e ∙ b.0 in cc w)
    go (inr o) = subst HasOwnKind (sym b.1) o
fixed_own kind r place (c ∷ cs) (t ∷ ts) f h l (inr b) = fixed_own kind r place cs ts f (λ j c t. h (suc j) c t) (omega arith) b

no_other : (wrong : Placed → MeaningFault) (fs : List Follower) (ts : List Placed) (f : MeaningFault) → AllByRecursion (λ u. is_follower fs (bare u) ≡ true) ts → FollowerFault wrong fs ts f → ⊥
no_other wrong fs [] f h b = b
no_other wrong fs (t ∷ ts) f h (inl b) = let w : true ≡ false = sym h.0 ∙ b.0 in cc w
no_other wrong fs (t ∷ ts) f h (inr b) = no_other wrong fs ts f h.1 b

two_own : (k : Keyword) (f : MeaningFault) (xs : List Placed) → is_plain k ≡ false → AtTwo (λ x y. f ≡ second k x y) xs → HasOwnKind f
two_own k f [] p h = absurd h
two_own k f (x ∷ xs) p (inl h) = go xs h
  where
    go : (ys : List Placed) → AtOne (λ y. f ≡ second k x y) ys → HasOwnKind f
    go [] h = absurd h
    go (y ∷ ys) (inl e) = subst HasOwnKind (sym e) (second_own k x y p)
    go (y ∷ ys) (inr h) = go ys h
two_own k f (x ∷ xs) p (inr h) = two_own k f xs p h

seconds_own : (fs : List Follower) (ts : List Placed) (f : MeaningFault) → ((j : ℕ) (a : Follower) → slice_get fs j ≡ Some a → OnceFits a ts) → SecondFault fs ts f → HasOwnKind f
seconds_own [] ts f h b = absurd b
seconds_own (Many k ∷ fs) ts f h b = seconds_own fs ts f (λ j a. h (suc j) a) b
seconds_own (One k ∷ fs) ts f h (inl b) = go (h 0 (One k) refl)
  where
    go : OnceFits (One k) ts → HasOwnKind f
    go (inl p) = two_own k f (those_of k ts) p b
    go (inr l) = absurd (none_of_two (λ x y. f ≡ second k x y) (those_of k ts) l b)
seconds_own (One k ∷ fs) ts f h (inr b) = seconds_own fs ts f (λ j a. h (suc j) a) b

pub row_own : (kind : Kind) (cs : List (List Choice)) (fs : List Follower) (t : Placed) (f : MeaningFault) → FixedFits kind (Takes cs fs) cs (arguments t) → length cs ≤ length (arguments t)
    → AllByRecursion (λ u. is_follower fs (bare u) ≡ true) (drop (length cs) (arguments t))
    → ((j : ℕ) (a : Follower) → slice_get fs j ≡ Some a → OnceFits a (drop (length cs) (arguments t))) → Breaches kind (Takes cs fs) t f → HasOwnKind f
row_own kind cs fs t f x l y z (inl b) = fixed_own kind (Takes cs fs) (place_of t) cs (arguments t) f x l b
row_own kind cs fs t f x l y z (inr (inl b)) = absurd (no_other (misplaced BadForm (Takes cs fs)) fs (drop (length cs) (arguments t)) f y b)
row_own kind cs fs t f x l y z (inr (inr b)) = seconds_own fs (drop (length cs) (arguments t)) f z b

pub row_back : (k : Keyword) (cs : List (List Choice)) (fs : List Follower) (t : Placed) (f : MeaningFault) → row k ≡ Takes cs fs → RowFault k t f → Breaches (token_kind k) (Takes cs fs) t f
row_back k cs fs t f r b = let P : FormRow → Type 0 = λ v. Breaches (token_kind k) v t f in subst P r b

-- what stands behind the fixed arguments
pub behind_fixed : (wanted : List FixedArgument) (us vs ts : List Placed) → vs ≡ drop (length wanted) us → us ≡ ts → vs ≡ drop (length (map choices wanted)) ts
behind_fixed wanted us vs ts e f = e ∙ ap (drop (length wanted)) f ∙ ap (λ n. drop n ts) (sym (length-map wanted choices))

-- of few there is none twice
pub few_once : (a : Follower) (ts : List Placed) → length ts < 2 → OnceFits a ts
few_once (Many k) ts l = tt
few_once (One k) ts l = inr (let n = those_few k ts in omega arith)
  where
    those_few : (k : Keyword) (ts : List Placed) → length (those_of k ts) ≤ length ts
    those_few k [] = omega arith
    those_few k (t ∷ ts) = go (has_keyword k (bare t)) (those_few k ts)
      where
        go : (b : Bool) → length (those_of k ts) ≤ length ts → length (cond b (t ∷ those_of k ts) (those_of k ts)) ≤ suc (length ts)
        go true h = omega arith
        go false h = omega arith
