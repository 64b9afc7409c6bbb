-- A form that fits, as a form of its keyword: its fixed arguments one by one, what may follow, and the nodes of its parts.
use Rattle.std.proofs.Common.{◌≡◌, ℕ, zero, suc, ◌≤◌, List, [], ◌∷◌, ◌++◌, map, length, take, drop, refl, ap, sym, ◌∙◌, subst, ◌⊎◌, inl, inr, Bool, true, false, ◌&&◌, Option, Some, None, Result, Ok, Err, arith}
use Rattle.std.specs.Prelude.{cond, slice_get, IfOk, IfErr}
use Rattle.std.specs.List.{AllZip, AllByRecursion}
use Rattle.std.proofs.lemmas.Bool.{and_parts, cases_Bool}
use Rattle.std.proofs.lemmas.List.{length-map}
use Rattle.netlist_schema.proofs.Lists.{take_front, zip_length}
use Rattle.edif_spelling_spec.specs.Tree.{Bare, Placed, Form', Word', Integer', String', End, More, bare}
use Rattle.edif_spec.specs.Keyword.{row, FormRow, Takes, Choice, Follower, Many, One, name_definition, the, integer}
use Rattle.edif_spec.specs.Rows.{has_keyword, those, is_one_of, is_follower, AtMostOnce, FitsRow, IsFormOf}
use Rattle.edif_spec.specs.Faults.{AtTwo, place_of, arguments, fixed_count, followers, those_of, FixedFault, FollowerFault, SecondFault, second, Breaches, RowFault, token_kind, misplaced, row_has}
use Rattle.edif_spec.specs.declared.keyword.Keyword.{Keyword}
use Rattle.edif_spec.specs.declared.keyword.Keyword.TheVariants as keywords
use Rattle.edif_spec.specs.declared.fault.Kind.{Kind}
use Rattle.edif_spec.specs.declared.fault.Kind.TheVariants.{BadForm}
use Rattle.edif_spec.specs.declared.fault.MeaningFault.{MeaningFault}
use Rattle.edif_spec.specs.declared.fault.MeaningFault.TheVariants.{NotInProfile, At}
use Rattle.edif_spec.proofs.FaultForms.{filter_bare, none_of_two, none_of_one}
use Rattle.edif_spec.proofs.KnownForms as known
use Rattle.edif_grammar.specs.Forms.{ArePartsOf, Fails, Fits, FitsOwn, HasOwnKind, HasParts, fault_of, row_above}
use Rattle.edif_grammar.specs.declared.lent.Form.{Form}
use Rattle.edif_grammar.specs.declared.lent.Breach.{Breach}
pub use Rattle.edif_grammar.specs.Rules.{is_plain}

-- What is wrong in a way of its own.
own_misplaced : (kind : Kind) (r : FormRow) (t : Placed) → HasOwnKind (misplaced kind r t) → misplaced kind r t ≡ At kind (place_of t)
own_misplaced kind r (Word' p w) h = refl
own_misplaced kind r (Integer' p z) h = refl
own_misplaced kind r (String' p s) h = refl
own_misplaced kind r (Form' p End) h = absurd h
own_misplaced kind r (Form' p (More (Form' q us) ts)) h = absurd h
own_misplaced kind r (Form' p (More (Integer' q z) ts)) h = absurd h
own_misplaced kind r (Form' p (More (String' q s) ts)) h = absurd h
own_misplaced kind r (Form' p (More (Word' q name) ts)) h = absurd (go (row_has r (bare (Form' p (More (Word' q name) ts)))) h)
  where
    go : (b : Bool) → HasOwnKind (cond b (At BadForm p) (NotInProfile name p)) → ⊥
    go true h = h
    go false h = h

plain_misplaced : (r : FormRow) (t : Placed) → HasOwnKind (misplaced BadForm r t) → ⊥
plain_misplaced r t h = subst HasOwnKind (own_misplaced BadForm r t h) h

pub second_plain : (k : Keyword) (a b : Placed) → is_plain k ≡ true → second k a b ≡ At BadForm (place_of b)
second_plain keywords.View a b h = absurd (cc h)
second_plain keywords.Design a b h = absurd (cc h)
second_plain _ a b h = refl

-- of each that may stand once, a second one is a bad form, or there is at most one
abbrev pub SecondsFit : List Follower → List Placed → Type 0
SecondsFit [] ts = Unit {0}
SecondsFit (Many k ∷ fs) ts = SecondsFit fs ts
SecondsFit (One k ∷ fs) ts = ((is_plain k ≡ true) ⊎ (length (those_of k ts) ≤ 1)) × SecondsFit fs ts

abbrev pub are_plain : List Follower → Bool
are_plain [] = true
are_plain (Many k ∷ fs) = are_plain fs
are_plain (One k ∷ fs) = is_plain k && are_plain fs

pub plain_fit : (fs : List Follower) (ts : List Placed) → are_plain fs ≡ true → SecondsFit fs ts
plain_fit [] ts h = tt
plain_fit (Many k ∷ fs) ts h = plain_fit fs ts h
plain_fit (One k ∷ fs) ts h = let e = and_parts (is_plain k) (are_plain fs) h in (inl e.0, plain_fit fs ts e.1)

one_of_two : {A : Type 0} (R : A → A → Type 0) (xs : List A) → ((x y : A) → R x y → ⊥) → AtTwo R xs → ⊥
one_of_two R [] n h = h
one_of_two R (x ∷ xs) n (inl h) = none_of_one (R x) xs (n x) h
one_of_two R (x ∷ xs) n (inr h) = one_of_two R xs n h

plain_second : (k : Keyword) (f : MeaningFault) (a b : Placed) → is_plain k ≡ true → HasOwnKind f → f ≡ second k a b → ⊥
plain_second k f a b h o e = subst HasOwnKind (e ∙ second_plain k a b h) o

no_second : (fs : List Follower) (ts : List Placed) (f : MeaningFault) → SecondsFit fs ts → HasOwnKind f → SecondFault fs ts f → ⊥
no_second [] ts f h o b = b
no_second (Many k ∷ fs) ts f h o b = no_second fs ts f h o b
no_second (One k ∷ fs) ts f (inl e, h) o (inl b) = one_of_two (λ x y. f ≡ second k x y) (those_of k ts) (λ x y. plain_second k f x y e o) b
no_second (One k ∷ fs) ts f (inr l, h) o (inl b) = none_of_two (λ x y. f ≡ second k x y) (those_of k ts) l b
no_second (One k ∷ fs) ts f (s, h) o (inr b) = no_second fs ts f h o b

no_fixed : (wrong : Placed → MeaningFault) (place : ℕ) (cs : List (List Choice)) (ts : List Placed) (f : MeaningFault) → known.FixedFit cs (take (length cs) ts) → FixedFault wrong place cs ts f → ⊥
no_fixed wrong place [] ts f h b = b
no_fixed wrong place (c ∷ cs) [] f h b = h
no_fixed wrong place (c ∷ cs) (t ∷ ts) f h (inl b) = let yes' : is_one_of c (bare t) ≡ true = h.0 in let no' : is_one_of c (bare t) ≡ false = b.0 in absurd (cc)
no_fixed wrong place (c ∷ cs) (t ∷ ts) f h (inr b) = no_fixed wrong place cs ts f h.1 b

no_follower : (r : FormRow) (fs : List Follower) (ts : List Placed) (f : MeaningFault) → HasOwnKind f → FollowerFault (misplaced BadForm r) fs ts f → ⊥
no_follower r fs ts f o b = none_of_one (λ t. (is_follower fs (bare t) ≡ false) × (f ≡ misplaced BadForm r t)) ts (λ t e. plain_misplaced r t (subst HasOwnKind e.1 o)) b

-- Each fixed argument is there. It is one of its choices, or else a token, whose fault is of the kind of its row.
abbrev pub FixedOr : Keyword → Placed → List (List Choice) → List Placed → Type 0
FixedOr k t cs ts = AllZip (λ c u. (is_one_of c (bare u) ≡ true) ⊎ RowFault k t (At (token_kind k) (place_of u))) cs ts

fixed_step : (F : MeaningFault → Type 0) (kind : Kind) (r : FormRow) (place : ℕ) (cs : List (List Choice)) (ts : List Placed) → ((f : MeaningFault) → FixedFault (misplaced kind r) place cs ts f → F f) → ((f : MeaningFault) → F f → HasOwnKind f)
    → AllZip (λ c u. (is_one_of c (bare u) ≡ true) ⊎ F (At kind (place_of u))) cs (take (length cs) ts)
fixed_step F kind r place [] ts h o = tt
fixed_step F kind r place (c ∷ cs) [] h o = o (At BadForm place) (h (At BadForm place) refl)
fixed_step F kind r place (c ∷ cs) (t ∷ ts) h o = (go (cases_Bool (is_one_of c (bare t))), fixed_step F kind r place cs ts (λ f b. h f (inr b)) o)
  where
    go : (is_one_of c (bare t) ≡ true) ⊎ (is_one_of c (bare t) ≡ false) → (is_one_of c (bare t) ≡ true) ⊎ F (At kind (place_of t))
    go (inl e) = inl e
    go (inr e) =
        let b : F (misplaced kind r t) = h (misplaced kind r t) (inl (e, refl)) in
        inr (subst F (own_misplaced kind r t (o (misplaced kind r t) b)) b)

pub in_row : (k : Keyword) (cs : List (List Choice)) (fs : List Follower) (t : Placed) (f : MeaningFault) → row k ≡ Takes cs fs → Breaches (token_kind k) (Takes cs fs) t f → RowFault k t f
in_row k cs fs t f r b = let P : FormRow → Type 0 = λ v. Breaches (token_kind k) v t f in subst P (sym r) b

pub fixed_or : (k : Keyword) (cs : List (List Choice)) (fs : List Follower) (t : Placed) → row k ≡ Takes cs fs → FitsOwn k t → FixedOr k t cs (take (length cs) (arguments t))
fixed_or k cs fs t r h = fixed_step (RowFault k t) (token_kind k) (Takes cs fs) (place_of t) cs (arguments t) (λ f b. in_row k cs fs t f r (inl b)) h.breaches

-- each fixed argument is one of its choices, where a token that is none would be a bad form
plain_fixed : (k : Keyword) (t : Placed) (cs : List (List Choice)) (ts : List Placed) → (HasOwnKind (At (token_kind k) 0) → ⊥) → ((f : MeaningFault) → RowFault k t f → HasOwnKind f) → FixedOr k t cs ts → known.FixedFit cs ts
plain_fixed k t [] [] n o h = tt
plain_fixed k t [] (u ∷ ts) n o h = absurd h
plain_fixed k t (c ∷ cs) [] n o h = absurd h
plain_fixed k t (c ∷ cs) (u ∷ ts) n o (inl e, h) = (e, plain_fixed k t cs ts n o h)
plain_fixed k t (c ∷ cs) (u ∷ ts) n o (inr b, h) = absurd (other (token_kind k) (place_of u) n (o (At (token_kind k) (place_of u)) b))
  where
    other : (kind : Kind) (p : ℕ) → (HasOwnKind (At kind 0) → ⊥) → HasOwnKind (At kind p) → ⊥
    other BadForm p n h = h
    other kind p n h = n h

-- A form that fits has its keyword, its fixed arguments and what follows.
pub fits_row : (k : Keyword) (cs : List (List Choice)) (fs : List Follower) (t : Placed) → row k ≡ Takes cs fs → FitsOwn k t
    → known.FixedFit cs (take (length cs) (arguments t)) → SecondsFit fs (followers k t) → known.Fits k cs t
fits_row k cs fs t r h x s = go (known.row_known k cs fs t r h.keyword)
  where
    no : (f : MeaningFault) → HasOwnKind f → Breaches (token_kind k) (Takes cs fs) t f → SecondsFit fs (drop (length cs) (arguments t)) → ⊥
    no f o (inl b) s = no_fixed (misplaced (token_kind k) (Takes cs fs)) (place_of t) cs (arguments t) f x b
    no f o (inr (inl b)) s = no_follower (Takes cs fs) fs (drop (length cs) (arguments t)) f o b
    no f o (inr (inr b)) s = no_second fs (drop (length cs) (arguments t)) f s o b

    go : known.Fits k cs t ⊎ known.Faulty (RowFault k t) → known.Fits k cs t
    go (inl y) = y
    go (inr b) =
        let P : FormRow → Type 0 = λ v. Breaches (token_kind k) v t b.0 in
        let Q : FormRow → Type 0 = λ v. SecondsFit fs (drop (fixed_count v) (arguments t)) in
        absurd (no b.0 (h.breaches b.0 b.1) (subst P r b.1) (subst Q r s))

-- the same where a token that is none of the choices would be a bad form
pub fits_bad : (k : Keyword) (cs : List (List Choice)) (fs : List Follower) (t : Placed) → row k ≡ Takes cs fs → token_kind k ≡ BadForm → FitsOwn k t → SecondsFit fs (followers k t) → known.Fits k cs t
fits_bad k cs fs t r b h s =
    let plain : HasOwnKind (At (token_kind k) 0) → ⊥ = λ o. let P : Kind → Type 0 = λ v. HasOwnKind (At v 0) in subst P b o in
    fits_row k cs fs t r h (plain_fixed k t cs (take (length cs) (arguments t)) plain h.breaches (fixed_or k cs fs t r h)) s

-- The same where no breach of the row has a kind of its own: `refl` shows it of each keyword but the five that have.
pub fits_plain : (k : Keyword) (cs : List (List Choice)) (fs : List Follower) (t : Placed) → row k ≡ Takes cs fs → token_kind k ≡ BadForm → are_plain fs ≡ true → FitsOwn k t → known.Fits k cs t
fits_plain k cs fs t r b p h = fits_bad k cs fs t r b h (plain_fit fs (followers k t) p)

pub fixed_are : (k : Keyword) (cs : List (List Choice)) (fs : List Follower) (t : Placed) → row k ≡ Takes cs fs → (h : known.Fits k cs t) → take (fixed_count (row k)) (arguments t) ≡ h.fixed
fixed_are k cs fs t r h =
    let n : fixed_count (row k) ≡ length h.fixed = ap fixed_count r ∙ zip_length (λ c u. is_one_of c (bare u) ≡ true) cs h.fixed h.choices in
    ap (λ v. take v (arguments t)) n ∙ (ap (take (length h.fixed)) h.split ∙ take_front h.fixed (followers k t))

pub is_form : (k : Keyword) (cs : List (List Choice)) (fs : List Follower) (t : Placed) → row k ≡ Takes cs fs → known.Fits k cs t → IsFormOf k (bare t) (map bare (take (fixed_count (row k)) (arguments t))) (map bare (followers k t))
is_form k cs fs t r h = let P : List Placed → Type 0 = λ v. IsFormOf k (bare t) (map bare v) (map bare (followers k t)) in subst P (sym (fixed_are k cs fs t r h)) h.form

-- A form that fits, with its fixed arguments by their number.
pub record Fixed0 (k : Keyword) (t : Placed) : Type 0 where
  pub fixed : take (fixed_count (row k)) (arguments t) ≡ []
  pub all : arguments t ≡ followers k t
  pub form : IsFormOf k (bare t) [] (map bare (followers k t))

pub record Fixed1 (k : Keyword) (c : List Choice) (t : Placed) : Type 0 where
  pub a : Placed
  pub fixed : take (fixed_count (row k)) (arguments t) ≡ a ∷ []
  pub at_a : slice_get (arguments t) 0 ≡ Some a
  pub is_a : is_one_of c (bare a) ≡ true
  pub form : IsFormOf k (bare t) (bare a ∷ []) (map bare (followers k t))

pub record Fixed2 (k : Keyword) (c d : List Choice) (t : Placed) : Type 0 where
  pub a : Placed
  pub b : Placed
  pub fixed : take (fixed_count (row k)) (arguments t) ≡ a ∷ b ∷ []
  pub at_a : slice_get (arguments t) 0 ≡ Some a
  pub at_b : slice_get (arguments t) 1 ≡ Some b
  pub is_a : is_one_of c (bare a) ≡ true
  pub is_b : is_one_of d (bare b) ≡ true
  pub form : IsFormOf k (bare t) (bare a ∷ bare b ∷ []) (map bare (followers k t))

pub record Fixed3 (k : Keyword) (c d e : List Choice) (t : Placed) : Type 0 where
  pub a : Placed
  pub b : Placed
  pub x : Placed
  pub fixed : take (fixed_count (row k)) (arguments t) ≡ a ∷ b ∷ x ∷ []
  pub at_a : slice_get (arguments t) 0 ≡ Some a
  pub at_b : slice_get (arguments t) 1 ≡ Some b
  pub at_x : slice_get (arguments t) 2 ≡ Some x
  pub is_a : is_one_of c (bare a) ≡ true
  pub is_b : is_one_of d (bare b) ≡ true
  pub is_x : is_one_of e (bare x) ≡ true
  pub form : IsFormOf k (bare t) (bare a ∷ bare b ∷ bare x ∷ []) (map bare (followers k t))

pub record Fixed4 (k : Keyword) (c d e g : List Choice) (t : Placed) : Type 0 where
  pub a : Placed
  pub b : Placed
  pub x : Placed
  pub y : Placed
  pub fixed : take (fixed_count (row k)) (arguments t) ≡ a ∷ b ∷ x ∷ y ∷ []
  pub at_a : slice_get (arguments t) 0 ≡ Some a
  pub at_b : slice_get (arguments t) 1 ≡ Some b
  pub at_x : slice_get (arguments t) 2 ≡ Some x
  pub at_y : slice_get (arguments t) 3 ≡ Some y
  pub is_a : is_one_of c (bare a) ≡ true
  pub is_b : is_one_of d (bare b) ≡ true
  pub is_x : is_one_of e (bare x) ≡ true
  pub is_y : is_one_of g (bare y) ≡ true
  pub form : IsFormOf k (bare t) (bare a ∷ bare b ∷ bare x ∷ bare y ∷ []) (map bare (followers k t))

abbrev Choose : List (List Choice) → List Placed → Type 0
Choose cs us = AllZip (λ c u. is_one_of c (bare u) ≡ true) cs us

abbrev IsForm : Keyword → Placed → List Placed → Type 0
IsForm k t us = IsFormOf k (bare t) (map bare us) (map bare (followers k t))

abbrev Front : Keyword → Placed → List Placed → Type 0
Front k t us = take (fixed_count (row k)) (arguments t) ≡ us

pub fixed0 : (k : Keyword) (fs : List Follower) (t : Placed) → row k ≡ Takes [] fs → known.Fits k [] t → Fixed0 k t
fixed0 k fs t r h = go h.fixed (fixed_are k [] fs t r h) h.split h.choices h.form
  where
    go : (us : List Placed) → Front k t us → arguments t ≡ us ++ followers k t → Choose [] us → IsForm k t us → Fixed0 k t
    go [] w s z f = record { fixed = w; all = s; form = f }
    go (u ∷ us) w s z f = absurd z

pub fixed1 : (k : Keyword) (c : List Choice) (fs : List Follower) (t : Placed) → row k ≡ Takes (c ∷ []) fs → known.Fits k (c ∷ []) t → Fixed1 k c t
fixed1 k c fs t r h = go h.fixed (fixed_are k (c ∷ []) fs t r h) h.split h.choices h.form
  where
    go : (us : List Placed) → Front k t us → arguments t ≡ us ++ followers k t → Choose (c ∷ []) us → IsForm k t us → Fixed1 k c t
    go [] w s z f = absurd z
    go (a ∷ b ∷ us) w s z f = absurd z.1
    go (a ∷ []) w s z f = record { a = a; fixed = w; at_a = ap (λ v. slice_get v 0) s; is_a = z.0; form = f }

pub fixed2 : (k : Keyword) (c d : List Choice) (fs : List Follower) (t : Placed) → row k ≡ Takes (c ∷ d ∷ []) fs → known.Fits k (c ∷ d ∷ []) t → Fixed2 k c d t
fixed2 k c d fs t r h = go h.fixed (fixed_are k (c ∷ d ∷ []) fs t r h) h.split h.choices h.form
  where
    go : (us : List Placed) → Front k t us → arguments t ≡ us ++ followers k t → Choose (c ∷ d ∷ []) us → IsForm k t us → Fixed2 k c d t
    go [] w s z f = absurd z
    go (a ∷ []) w s z f = absurd z.1
    go (a ∷ b ∷ x ∷ us) w s z f = absurd z.1.1
    go (a ∷ b ∷ []) w s z f = record { a = a; b = b; fixed = w; at_a = ap (λ v. slice_get v 0) s; at_b = ap (λ v. slice_get v 1) s; is_a = z.0; is_b = z.1.0; form = f }

pub fixed3 : (k : Keyword) (c d e : List Choice) (fs : List Follower) (t : Placed) → row k ≡ Takes (c ∷ d ∷ e ∷ []) fs → known.Fits k (c ∷ d ∷ e ∷ []) t → Fixed3 k c d e t
fixed3 k c d e fs t r h = go h.fixed (fixed_are k (c ∷ d ∷ e ∷ []) fs t r h) h.split h.choices h.form
  where
    go : (us : List Placed) → Front k t us → arguments t ≡ us ++ followers k t → Choose (c ∷ d ∷ e ∷ []) us → IsForm k t us → Fixed3 k c d e t
    go [] w s z f = absurd z
    go (a ∷ []) w s z f = absurd z.1
    go (a ∷ b ∷ []) w s z f = absurd z.1.1
    go (a ∷ b ∷ x ∷ y ∷ us) w s z f = absurd z.1.1.1
    go (a ∷ b ∷ x ∷ []) w s z f = record { a = a; b = b; x = x; fixed = w; at_a = ap (λ v. slice_get v 0) s; at_b = ap (λ v. slice_get v 1) s; at_x = ap (λ v. slice_get v 2) s; is_a = z.0; is_b = z.1.0; is_x = z.1.1.0; form = f }

pub fixed4 : (k : Keyword) (c d e g : List Choice) (fs : List Follower) (t : Placed) → row k ≡ Takes (c ∷ d ∷ e ∷ g ∷ []) fs → known.Fits k (c ∷ d ∷ e ∷ g ∷ []) t → Fixed4 k c d e g t
fixed4 k c d e g fs t r h = go h.fixed (fixed_are k (c ∷ d ∷ e ∷ g ∷ []) fs t r h) h.split h.choices h.form
  where
    go : (us : List Placed) → Front k t us → arguments t ≡ us ++ followers k t → Choose (c ∷ d ∷ e ∷ g ∷ []) us → IsForm k t us → Fixed4 k c d e g t
    go [] w s z f = absurd z
    go (a ∷ []) w s z f = absurd z.1
    go (a ∷ b ∷ []) w s z f = absurd z.1.1
    go (a ∷ b ∷ x ∷ []) w s z f = absurd z.1.1.1
    go (a ∷ b ∷ x ∷ y ∷ o ∷ us) w s z f = absurd z.1.1.1.1
    go (a ∷ b ∷ x ∷ y ∷ []) w s z f = record { a = a; b = b; x = x; y = y; fixed = w; at_a = ap (λ v. slice_get v 0) s; at_b = ap (λ v. slice_get v 1) s; at_x = ap (λ v. slice_get v 2) s; at_y = ap (λ v. slice_get v 3) s; is_a = z.0; is_b = z.1.0; is_x = z.1.1.0; is_y = z.1.1.1.0; form = f }

-- From a form that fits, where no breach of its row has a kind of its own. All premises but the last are `refl` at a keyword.
pub fit0 : (k : Keyword) (fs : List Follower) (t : Placed) → row k ≡ Takes [] fs → token_kind k ≡ BadForm → are_plain fs ≡ true → FitsOwn k t → Fixed0 k t
fit0 k fs t r b p h = fixed0 k fs t r (fits_plain k [] fs t r b p h)

pub fit1 : (k : Keyword) (c : List Choice) (fs : List Follower) (t : Placed) → row k ≡ Takes (c ∷ []) fs → token_kind k ≡ BadForm → are_plain fs ≡ true → FitsOwn k t → Fixed1 k c t
fit1 k c fs t r b p h = fixed1 k c fs t r (fits_plain k (c ∷ []) fs t r b p h)

pub fit2 : (k : Keyword) (c d : List Choice) (fs : List Follower) (t : Placed) → row k ≡ Takes (c ∷ d ∷ []) fs → token_kind k ≡ BadForm → are_plain fs ≡ true → FitsOwn k t → Fixed2 k c d t
fit2 k c d fs t r b p h = fixed2 k c d fs t r (fits_plain k (c ∷ d ∷ []) fs t r b p h)

pub fit3 : (k : Keyword) (c d e : List Choice) (fs : List Follower) (t : Placed) → row k ≡ Takes (c ∷ d ∷ e ∷ []) fs → token_kind k ≡ BadForm → are_plain fs ≡ true → FitsOwn k t → Fixed3 k c d e t
fit3 k c d e fs t r b p h = fixed3 k c d e fs t r (fits_plain k (c ∷ d ∷ e ∷ []) fs t r b p h)

-- A cell with one view at most, and a file with one design at most.
pub fit_cell : (t : Placed) → FitsOwn keywords.Cell t → length (those_of keywords.View (followers keywords.Cell t)) ≤ 1 → Fixed2 keywords.Cell name_definition (the keywords.CellType) t
fit_cell t h l =
    let fs : List Follower = Many keywords.Status ∷ One keywords.View ∷ Many keywords.Property ∷ Many keywords.Comment ∷ Many keywords.UserData ∷ [] in
    fixed2 keywords.Cell name_definition (the keywords.CellType) fs t refl (fits_bad keywords.Cell (name_definition ∷ the keywords.CellType ∷ []) fs t refl refl h (inr l, tt))

pub fit_edif : (t : Placed) → FitsOwn keywords.Edif t → length (those_of keywords.Design (followers keywords.Edif t)) ≤ 1
    → Fixed4 keywords.Edif name_definition (the keywords.EdifVersion) (the keywords.EdifLevel) (the keywords.KeywordMap) t
fit_edif t h l =
    let fs : List Follower = Many keywords.Status ∷ Many keywords.External ∷ Many keywords.Library ∷ One keywords.Design ∷ Many keywords.Comment ∷ Many keywords.UserData ∷ [] in
    fixed4 keywords.Edif name_definition (the keywords.EdifVersion) (the keywords.EdifLevel) (the keywords.KeywordMap) fs t refl
    (fits_bad keywords.Edif (name_definition ∷ the keywords.EdifVersion ∷ the keywords.EdifLevel ∷ the keywords.KeywordMap ∷ []) fs t refl refl h (inr l, tt))

-- An argument that is to be an integer: it is one, or a token whose fault is of the kind of its row.
abbrev pub IntegerOr : Keyword → Placed → Placed → Type 0
IntegerOr k t a = (is_one_of integer (bare a) ≡ true) ⊎ RowFault k t (At (token_kind k) (place_of a))

-- a level that fits but for its number
pub record LevelFits (k : Keyword) (t : Placed) : Type 0 where
  pub a : Placed
  pub fixed : take (fixed_count (row k)) (arguments t) ≡ a ∷ []
  pub at_a : slice_get (arguments t) 0 ≡ Some a
  pub or_a : IntegerOr k t a
  pub form : is_one_of integer (bare a) ≡ true → IsFormOf k (bare t) (bare a ∷ []) (map bare (followers k t))

-- the version, fitting but for its numbers
pub record VersionFits (t : Placed) : Type 0 where
  pub a : Placed
  pub b : Placed
  pub x : Placed
  pub fixed : take (fixed_count (row keywords.EdifVersion)) (arguments t) ≡ a ∷ b ∷ x ∷ []
  pub at_a : slice_get (arguments t) 0 ≡ Some a
  pub at_b : slice_get (arguments t) 1 ≡ Some b
  pub at_x : slice_get (arguments t) 2 ≡ Some x
  pub or_a : IntegerOr keywords.EdifVersion t a
  pub or_b : IntegerOr keywords.EdifVersion t b
  pub or_x : IntegerOr keywords.EdifVersion t x
  pub form : is_one_of integer (bare a) ≡ true → is_one_of integer (bare b) ≡ true → is_one_of integer (bare x) ≡ true
      → IsFormOf keywords.EdifVersion (bare t) (bare a ∷ bare b ∷ bare x ∷ []) (map bare (followers keywords.EdifVersion t))

-- an argument among the first ones stands in the same place among all
pub get_front : {A : Type 0} (n i : ℕ) (xs ys : List A) (x : A) → take n xs ≡ ys → slice_get ys i ≡ Some x → slice_get xs i ≡ Some x
get_front zero i xs ys x e g = absurd (let w : None ≡ Some x = ap (λ v. slice_get v i) e ∙ g in cc w)
get_front (suc n) i [] ys x e g = absurd (let w : None ≡ Some x = ap (λ v. slice_get v i) e ∙ g in cc w)
get_front (suc n) zero (y ∷ xs) ys x e g = ap (λ v. slice_get v 0) e ∙ g
get_front (suc n) (suc i) (y ∷ xs) [] x e g = absurd (cc e)
get_front (suc n) (suc i) (y ∷ xs) (z ∷ ys) x e g = let w : take n xs ≡ ys = cc e in get_front n i xs ys x w g

pub level_fits : (k : Keyword) (t : Placed) → row k ≡ Takes (integer ∷ []) [] → FitsOwn k t → LevelFits k t
level_fits k t r h = go (take 1 (arguments t)) refl (fixed_or k (integer ∷ []) [] t r h)
  where
    n : fixed_count (row k) ≡ 1
    n = ap fixed_count r

    go : (us : List Placed) → take 1 (arguments t) ≡ us → FixedOr k t (integer ∷ []) us → LevelFits k t
    go [] e z = absurd z
    go (a ∷ b ∷ us) e z = absurd z.1
    go (a ∷ []) e z = record {
      a = a;
      fixed = ap (λ v. take v (arguments t)) n ∙ e;
      at_a = get_front 1 0 (arguments t) (a ∷ []) a e refl;
      or_a = z.0;
      form = λ y.
          let P : List Placed → Type 0 = λ v. known.FixedFit (integer ∷ []) v in
          let Q : List Placed → Type 0 = λ v. IsFormOf k (bare t) (map bare v) (map bare (followers k t)) in
          let f : known.Fits k (integer ∷ []) t = fits_row k (integer ∷ []) [] t r h (subst P (sym e) (y, tt)) tt in
          subst Q (ap (λ v. take v (arguments t)) n ∙ e) (is_form k (integer ∷ []) [] t r f);
    }

pub version_fits : (t : Placed) → FitsOwn keywords.EdifVersion t → VersionFits t
version_fits t h = go (take 3 (arguments t)) refl (fixed_or keywords.EdifVersion (integer ∷ integer ∷ integer ∷ []) [] t refl h)
  where
    go : (us : List Placed) → take 3 (arguments t) ≡ us → FixedOr keywords.EdifVersion t (integer ∷ integer ∷ integer ∷ []) us → VersionFits t
    go [] e z = absurd z
    go (a ∷ []) e z = absurd z.1
    go (a ∷ b ∷ []) e z = absurd z.1.1
    go (a ∷ b ∷ x ∷ y ∷ us) e z = absurd z.1.1.1
    go (a ∷ b ∷ x ∷ []) e z = record {
      a = a;
      b = b;
      x = x;
      fixed = e;
      at_a = get_front 3 0 (arguments t) (a ∷ b ∷ x ∷ []) a e refl;
      at_b = get_front 3 1 (arguments t) (a ∷ b ∷ x ∷ []) b e refl;
      at_x = get_front 3 2 (arguments t) (a ∷ b ∷ x ∷ []) x e refl;
      or_a = z.0;
      or_b = z.1.0;
      or_x = z.1.1.0;
      form = λ i j l.
          let P : List Placed → Type 0 = λ v. known.FixedFit (integer ∷ integer ∷ integer ∷ []) v in
          let Q : List Placed → Type 0 = λ v. IsFormOf keywords.EdifVersion (bare t) (map bare v) (map bare (followers keywords.EdifVersion t)) in
          let f : known.Fits keywords.EdifVersion (integer ∷ integer ∷ integer ∷ []) t = fits_row keywords.EdifVersion (integer ∷ integer ∷ integer ∷ []) [] t refl h (subst P (sym e) (i, (j, (l, tt)))) tt in
          subst Q e (is_form keywords.EdifVersion (integer ∷ integer ∷ integer ∷ []) [] t refl f);
    }

-- What stands once at most.
abbrev pub MayStandOnce : Keyword → List Follower → Type 0
MayStandOnce j [] = ⊥
MayStandOnce j (Many k ∷ fs) = MayStandOnce j fs
MayStandOnce j (One k ∷ fs) = (k ≡ j) ⊎ MayStandOnce j fs

once_among : (j : Keyword) (fs : List Follower) (ts : List Bare) → MayStandOnce j fs → AtMostOnce fs ts → length (those j ts) ≤ 1
once_among j [] ts m h = absurd m
once_among j (Many k ∷ fs) ts m h = once_among j fs ts m h
once_among j (One k ∷ fs) ts (inl e) h = let P : Keyword → Type 0 = λ v. length (those v ts) ≤ 1 in subst P e h.0
once_among j (One k ∷ fs) ts (inr m) h = once_among j fs ts m h.1

pub once_bare : (k j : Keyword) (cs : List (List Choice)) (fs : List Follower) (t : Placed) (fixed : List Bare) → row k ≡ Takes cs fs → MayStandOnce j fs → IsFormOf k (bare t) fixed (map bare (followers k t)) → length (those j (map bare (followers k t))) ≤ 1
once_bare k j cs fs t fixed r m h =
    let P : FormRow → Type 0 = λ v. FitsRow v fixed (map bare (followers k t)) in
    let f = subst P r h.fits in
    once_among j fs (map bare (followers k t)) m f.2

pub once_placed : (k j : Keyword) (cs : List (List Choice)) (fs : List Follower) (t : Placed) (fixed : List Bare) → row k ≡ Takes cs fs → MayStandOnce j fs → IsFormOf k (bare t) fixed (map bare (followers k t)) → length (those_of j (followers k t)) ≤ 1
once_placed k j cs fs t fixed r m h =
    let l : length (those_of j (followers k t)) ≡ length (those j (map bare (followers k t))) = sym (length-map (those_of j (followers k t)) bare) ∙ ap length (filter_bare (has_keyword j) (followers k t)) in
    let o : length (those j (map bare (followers k t))) ≤ 1 = once_bare k j cs fs t fixed r m h in
    omega (arith, l, o)

second_stands : (j : Keyword) (fs : List Follower) (ts : List Placed) (f : MeaningFault) → MayStandOnce j fs → AtTwo (λ x y. f ≡ second j x y) (those_of j ts) → SecondFault fs ts f
second_stands j [] ts f m b = absurd m
second_stands j (Many k ∷ fs) ts f m b = second_stands j fs ts f m b
second_stands j (One k ∷ fs) ts f (inl e) b = let P : Keyword → Type 0 = λ v. AtTwo (λ x y. f ≡ second v x y) (those_of v ts) in inl (subst P (sym e) b)
second_stands j (One k ∷ fs) ts f (inr m) b = inr (second_stands j fs ts f m b)

-- the same from a form that fits, whatever else has a kind of its own there
pub once_fits : (k j : Keyword) (cs : List (List Choice)) (fs : List Follower) (t : Placed) → row k ≡ Takes cs fs → MayStandOnce j fs → is_plain j ≡ true → FitsOwn k t → length (those_of j (followers k t)) ≤ 1
once_fits k j cs fs t r m p h = go (those_of j (followers k t)) refl
  where
    in_seconds : (f : MeaningFault) → SecondFault fs (drop (fixed_count (row k)) (arguments t)) f → RowFault k t f
    in_seconds f b = let P : FormRow → Type 0 = λ v. SecondFault fs (drop (fixed_count v) (arguments t)) f in in_row k cs fs t f r (inr (inr (subst P r b)))

    go : (us : List Placed) → those_of j (followers k t) ≡ us → length us ≤ 1
    go [] e = omega arith
    go (a ∷ []) e = omega arith
    go (a ∷ b ∷ us) e =
        let P : List Placed → Type 0 = λ v. AtTwo (λ x y. second j a b ≡ second j x y) v in
        let two : AtTwo (λ x y. second j a b ≡ second j x y) (those_of j (followers k t)) = subst P (sym e) (inl (inl refl)) in
        let own : HasOwnKind (second j a b) = h.breaches (second j a b) (in_seconds (second j a b) (second_stands j fs (followers k t) (second j a b) m two)) in
        absurd (plain_second j (second j a b) a b p own refl)

-- what follows is what the row allows there
pub followers_fit : (k : Keyword) (cs : List (List Choice)) (fs : List Follower) (t : Placed) → row k ≡ Takes cs fs → FitsOwn k t → AllByRecursion (λ u. is_follower fs (bare u) ≡ true) (followers k t)
followers_fit k cs fs t r h = go (followers k t) (λ f b. h.breaches f (in_followers f b))
  where
    in_followers : (f : MeaningFault) → FollowerFault (misplaced BadForm (Takes cs fs)) fs (drop (fixed_count (row k)) (arguments t)) f → RowFault k t f
    in_followers f b = let P : FormRow → Type 0 = λ v. FollowerFault (misplaced BadForm (Takes cs fs)) fs (drop (fixed_count v) (arguments t)) f in in_row k cs fs t f r (inr (inl (subst P r b)))

    step : (u : Placed) → (is_follower fs (bare u) ≡ true) ⊎ (is_follower fs (bare u) ≡ false) → ((f : MeaningFault) → (is_follower fs (bare u) ≡ false) × (f ≡ misplaced BadForm (Takes cs fs) u) → HasOwnKind f) → is_follower fs (bare u) ≡ true
    step u (inl e) o = e
    step u (inr e) o = absurd (plain_misplaced (Takes cs fs) u (o (misplaced BadForm (Takes cs fs) u) (e, refl)))

    go : (us : List Placed) → ((f : MeaningFault) → FollowerFault (misplaced BadForm (Takes cs fs)) fs us f → HasOwnKind f) → AllByRecursion (λ u. is_follower fs (bare u) ≡ true) us
    go [] o = tt
    go (u ∷ us) o = (step u (cases_Bool (is_follower fs (bare u))) (λ f b. o f (inl b)), go us (λ f b. o f (inr b)))

-- a form that fits its place fits its own row
pub own : (parent : Option Keyword) (k : Keyword) (t : Placed) → Fits parent k t → FitsOwn k t
own parent k t h = record { keyword = h.keyword; breaches = h.breaches }

-- what is found of a form's own row, where the row above has such a form
has_parts : (parent : Option Keyword) (k : Keyword) (t : Placed) (p : Form) → row_has (row_above parent) (bare t) ≡ true → ArePartsOf k t p → HasParts parent t p
has_parts parent k t p a h =
    let F : Keyword → Type 0 = λ v. Fits parent v t in
    record {
      fits = subst F (sym h.keyword) (record { keyword = h.fits.keyword; allowed = a; breaches = h.fits.breaches });
      place = h.place;
      fixed = h.fixed ∙ ap (λ v. take (fixed_count (row v)) (arguments t)) (sym h.keyword);
      inner = h.inner ∙ ap (λ v. followers v t) (sym h.keyword);
    }

pub all_parts : (parent : Option Keyword) (k : Keyword) (t : Placed) (r : Result Form Breach) → row_has (row_above parent) (bare t) ≡ true → IfOk r (λ p. ArePartsOf k t p) → IfOk r (λ p. HasParts parent t p)
all_parts parent k t (Ok p) a h = has_parts parent k t p a h
all_parts parent k t (Err b) a h = tt

pub all_faults : (parent : Option Keyword) (k : Keyword) (t : Placed) (r : Result Form Breach) → has_keyword k (bare t) ≡ true → row_has (row_above parent) (bare t) ≡ true → IfErr r (λ b. RowFault k t (fault_of b)) → IfErr r (λ b. Fails parent t (fault_of b))
all_faults parent k t (Ok p) g a h = tt
all_faults parent k t (Err b) g a h = inr (k, g, h, a)
