-- A form has one keyword at most; and which breach of a form is one of its row.
use Rattle.std.proofs.Common.{◌≡◌, ℕ, List, [], ◌∷◌, refl, sym, ap, ◌∙◌, subst, ◌⊎◌, inl, inr, Bool, true, false, ◌&&◌, nat_eq, Option, Some, None, eq-eqb, eqb-true}
use Rattle.std.specs.Prelude.{◌||◌, cond}
use Rattle.std.specs.List.{list_any}
use Rattle.std.specs.Char.{to_ascii_lowercase}
use Rattle.std.proofs.lemmas.Bool.{or_cases, or_right, or_left, and_parts}
use Rattle.edif_spelling_spec.specs.Tree.{Bare, Placed, Form', Word', Integer', String', End, More, bare}
use Rattle.edif_spec.specs.Keyword.{keyword, first_spelled, all_keywords, same, spelling_of, FormRow, Takes, Skips, Choice, AnIdentifier, AnInteger, AString, AForm, Follower, Many, One}
use Rattle.edif_spec.specs.Rows.{has_keyword, is_choice, is_one_of, is_follower}
use Rattle.edif_spec.specs.Faults.{RowFault, row_has, misplaced}
use Rattle.edif_spec.specs.Stands.{file_row}
use Rattle.edif_spec.specs.declared.keyword.Keyword.{Keyword}
use Rattle.edif_spec.specs.declared.keyword.Keyword.TheVariants as keywords
use Rattle.edif_spec.specs.declared.fault.Kind.TheVariants.{BadForm}
use Rattle.edif_spec.specs.declared.fault.MeaningFault.{MeaningFault}
use Rattle.edif_grammar.specs.Forms.{Fails, Fits, has_form, row_above}

-- names that one spelling spells are alike
pub same_alike : (a b c s : List ℕ) → same a c ≡ true → same b c ≡ true → same a s ≡ same b s
same_alike [] [] [] s h k = refl
same_alike [] (y ∷ b) [] s h k = absurd (cc k)
same_alike (x ∷ a) b [] s h k = absurd (cc h)
same_alike [] b (z ∷ c) s h k = absurd (cc h)
same_alike (x ∷ a) [] (z ∷ c) s h k = absurd (cc k)
same_alike (x ∷ a) (y ∷ b) (z ∷ c) [] h k = refl
same_alike (x ∷ a) (y ∷ b) (z ∷ c) (w ∷ s) h k =
    let u = and_parts (nat_eq (to_ascii_lowercase x) (to_ascii_lowercase z)) (same a c) h in
    let v = and_parts (nat_eq (to_ascii_lowercase y) (to_ascii_lowercase z)) (same b c) k in
    let e : to_ascii_lowercase x ≡ to_ascii_lowercase y = eqb-true _ _ u.0 ∙ sym (eqb-true _ _ v.0) in
    let r : same a s ≡ same b s = same_alike a b c s u.1 v.1 in
    ap (λ n. nat_eq n (to_ascii_lowercase w) && same a s) e ∙ ap (λ m. nat_eq (to_ascii_lowercase y) (to_ascii_lowercase w) && m) r

pub same_self : (s : List ℕ) → same s s ≡ true
same_self [] = refl
same_self (x ∷ s) = ap (λ m. m && same s s) (eq-eqb (to_ascii_lowercase x) (to_ascii_lowercase x) refl) ∙ same_self s

alike_spelled : (a b c : List ℕ) (ks : List Keyword) → same a c ≡ true → same b c ≡ true → first_spelled a ks ≡ first_spelled b ks
alike_spelled a b c [] h k = refl
alike_spelled a b c (j ∷ ks) h k =
    ap (λ m. cond m (Some j) (first_spelled a ks)) (same_alike a b c (spelling_of j) h k) ∙ ap (λ m. cond (same b (spelling_of j)) (Some j) m) (alike_spelled a b c ks h k)

-- each spelling is that of its keyword
spelled : (k : Keyword) → keyword (spelling_of k) ≡ Some k
spelled keywords.Edif = refl
spelled _ = refl

-- the keyword that a name spells is found
pub found : (name : List ℕ) (k : Keyword) → same name (spelling_of k) ≡ true → keyword name ≡ Some k
found name k h = alike_spelled name (spelling_of k) (spelling_of k) all_keywords h (same_self (spelling_of k)) ∙ spelled k

-- and what is found is spelled
pub first_same : (name : List ℕ) (ks : List Keyword) (k : Keyword) → first_spelled name ks ≡ Some k → same name (spelling_of k) ≡ true
first_same name [] k h = absurd (cc h)
first_same name (j ∷ ks) k h = go (same name (spelling_of j)) refl h (first_same name ks k)
  where
    go : (b : Bool) → same name (spelling_of j) ≡ b → cond b (Some j) (first_spelled name ks) ≡ Some k → (first_spelled name ks ≡ Some k → same name (spelling_of k) ≡ true) → same name (spelling_of k) ≡ true
    go true e h r = let w : j ≡ k = cc h in ap (λ v. same name (spelling_of v)) (sym w) ∙ e
    go false e h r = r h

pub one_name : (name : List ℕ) (j k : Keyword) → same name (spelling_of j) ≡ true → same name (spelling_of k) ≡ true → j ≡ k
one_name name j k h g = let w : Some j ≡ Some k = sym (found name j h) ∙ found name k g in cc w

-- A form has one keyword at most.
pub one_keyword : (j k : Keyword) (t : Bare) → has_keyword j t ≡ true → has_keyword k t ≡ true → j ≡ k
one_keyword j k (Form' p (More (Word' q name) ts)) h g = one_name name j k h g
one_keyword j k (Form' p (More (Form' q us) ts)) h g = absurd (cc h)
one_keyword j k (Form' p (More (Integer' q z) ts)) h g = absurd (cc h)
one_keyword j k (Form' p (More (String' q s) ts)) h g = absurd (cc h)
one_keyword j k (Form' p End) h g = absurd (cc h)
one_keyword j k (Word' p w) h g = absurd (cc h)
one_keyword j k (Integer' p z) h g = absurd (cc h)
one_keyword j k (String' p s) h g = absurd (cc h)

-- a form of this keyword is one of the choices, or one of the followers, of a row
abbrev pub is_a_choice : Keyword → Choice → Bool
is_a_choice j (AForm k) = same (spelling_of j) (spelling_of k)
is_a_choice j _ = false

abbrev pub is_a_follower : Keyword → Follower → Bool
is_a_follower j (Many k) = same (spelling_of j) (spelling_of k)
is_a_follower j (One k) = same (spelling_of j) (spelling_of k)

abbrev pub holds : FormRow → Keyword → Bool
holds Skips j = false
holds (Takes cs fs) j = list_any (list_any (is_a_choice j)) cs || list_any (is_a_follower j) fs

same_keyword : (j k : Keyword) (t : Bare) → same (spelling_of j) (spelling_of k) ≡ true → has_keyword j t ≡ true → has_keyword k t ≡ true
same_keyword j k t h g =
    let e : j ≡ k = one_name (spelling_of j) j k (same_self (spelling_of j)) h in ap (λ v. has_keyword v t) (sym e) ∙ g

choice_holds : (j : Keyword) (t : Bare) (c : List Choice) → list_any (is_a_choice j) c ≡ true → has_keyword j t ≡ true → is_one_of c t ≡ true
choice_holds j t [] h g = absurd (cc h)
choice_holds j t (AnIdentifier ∷ c) h g = or_right (is_choice AnIdentifier t) (is_one_of c t) (choice_holds j t c h g)
choice_holds j t (AnInteger ∷ c) h g = or_right (is_choice AnInteger t) (is_one_of c t) (choice_holds j t c h g)
choice_holds j t (AString ∷ c) h g = or_right (is_choice AString t) (is_one_of c t) (choice_holds j t c h g)
choice_holds j t (AForm k ∷ c) h g = go (or_cases (same (spelling_of j) (spelling_of k)) (list_any (is_a_choice j) c) h) (λ e. choice_holds j t c e g)
  where
    go : (same (spelling_of j) (spelling_of k) ≡ true) ⊎ (list_any (is_a_choice j) c ≡ true) → (list_any (is_a_choice j) c ≡ true → is_one_of c t ≡ true) → (has_keyword k t || is_one_of c t) ≡ true
    go (inl e) r = or_left (has_keyword k t) (is_one_of c t) (same_keyword j k t e g)
    go (inr e) r = or_right (has_keyword k t) (is_one_of c t) (r e)

choices_hold : (j : Keyword) (t : Bare) (cs : List (List Choice)) → list_any (list_any (is_a_choice j)) cs ≡ true → has_keyword j t ≡ true → list_any (λ c. is_one_of c t) cs ≡ true
choices_hold j t [] h g = absurd (cc h)
choices_hold j t (c ∷ cs) h g = go (or_cases (list_any (is_a_choice j) c) (list_any (list_any (is_a_choice j)) cs) h) (λ e. choices_hold j t cs e g)
  where
    go : (list_any (is_a_choice j) c ≡ true) ⊎ (list_any (list_any (is_a_choice j)) cs ≡ true) → (list_any (list_any (is_a_choice j)) cs ≡ true → list_any (λ c. is_one_of c t) cs ≡ true) → (is_one_of c t || list_any (λ c. is_one_of c t) cs) ≡ true
    go (inl e) r = or_left (is_one_of c t) (list_any (λ c. is_one_of c t) cs) (choice_holds j t c e g)
    go (inr e) r = or_right (is_one_of c t) (list_any (λ c. is_one_of c t) cs) (r e)

followers_hold : (j : Keyword) (t : Bare) (fs : List Follower) → list_any (is_a_follower j) fs ≡ true → has_keyword j t ≡ true → is_follower fs t ≡ true
followers_hold j t [] h g = absurd (cc h)
followers_hold j t (Many k ∷ fs) h g = go (or_cases (same (spelling_of j) (spelling_of k)) (list_any (is_a_follower j) fs) h) (λ e. followers_hold j t fs e g)
  where
    go : (same (spelling_of j) (spelling_of k) ≡ true) ⊎ (list_any (is_a_follower j) fs ≡ true) → (list_any (is_a_follower j) fs ≡ true → is_follower fs t ≡ true) → (has_keyword k t || is_follower fs t) ≡ true
    go (inl e) r = or_left (has_keyword k t) (is_follower fs t) (same_keyword j k t e g)
    go (inr e) r = or_right (has_keyword k t) (is_follower fs t) (r e)
followers_hold j t (One k ∷ fs) h g = go (or_cases (same (spelling_of j) (spelling_of k)) (list_any (is_a_follower j) fs) h) (λ e. followers_hold j t fs e g)
  where
    go : (same (spelling_of j) (spelling_of k) ≡ true) ⊎ (list_any (is_a_follower j) fs ≡ true) → (list_any (is_a_follower j) fs ≡ true → is_follower fs t ≡ true) → (has_keyword k t || is_follower fs t) ≡ true
    go (inl e) r = or_left (has_keyword k t) (is_follower fs t) (same_keyword j k t e g)
    go (inr e) r = or_right (has_keyword k t) (is_follower fs t) (r e)

-- A form of this keyword may stand in the row: `holds (row k) j ≡ true` is `refl` at two keywords.
pub row_holds : (r : FormRow) (j : Keyword) (t : Bare) → holds r j ≡ true → has_keyword j t ≡ true → row_has r t ≡ true
row_holds Skips j t h g = absurd (cc h)
row_holds (Takes cs fs) j t h g = go (or_cases (list_any (list_any (is_a_choice j)) cs) (list_any (is_a_follower j) fs) h)
  where
    go : (list_any (list_any (is_a_choice j)) cs ≡ true) ⊎ (list_any (is_a_follower j) fs ≡ true) → (list_any (λ c. is_one_of c t) cs || is_follower fs t) ≡ true
    go (inl e) = or_left (list_any (λ c. is_one_of c t) cs) (is_follower fs t) (choices_hold j t cs e g)
    go (inr e) = or_right (list_any (λ c. is_one_of c t) cs) (is_follower fs t) (followers_hold j t fs e g)

-- The keyword of a form that fits is the one that it has.
pub keyword_is : (parent : Option Keyword) (j k : Keyword) (t : Placed) → Fits parent j t → has_keyword k (bare t) ≡ true → j ≡ k
keyword_is parent j k t h g = one_keyword j k (bare t) h.keyword g

pub fits_as : (parent : Option Keyword) (j k : Keyword) (t : Placed) → Fits parent j t → has_keyword k (bare t) ≡ true → Fits parent k t
fits_as parent j k t h g = let P : Keyword → Type 0 = λ v. Fits parent v t in subst P (keyword_is parent j k t h g) h

-- a tree with a keyword is a form
pub with_keyword : (r : FormRow) (k : Keyword) (t : Bare) → has_keyword k t ≡ true → has_form r t ≡ row_has r t
with_keyword r k (Form' p ts) h = refl
with_keyword r k (Word' p w) h = absurd (cc h)
with_keyword r k (Integer' p z) h = absurd (cc h)
with_keyword r k (String' p s) h = absurd (cc h)

-- A form that may stand where it does fails by a breach of its row.
pub breach : (parent : Option Keyword) (k : Keyword) (t : Placed) (f : MeaningFault) → holds (row_above parent) k ≡ true → has_keyword k (bare t) ≡ true → Fails parent t f → RowFault k t f
breach parent k t f h g (inl b) =
    let e : has_form (row_above parent) (bare t) ≡ true = with_keyword (row_above parent) k (bare t) g ∙ row_holds (row_above parent) k (bare t) h g in
    let n : has_form (row_above parent) (bare t) ≡ false = b.0 in absurd (cc)
breach parent k t f h g (inr b) = let P : Keyword → Type 0 = λ v. RowFault v t f in subst P (one_keyword b.0 k (bare t) b.1 g) b.2

one_choice : (b : Bool) → b ≡ false → (((b || false) || false) || false) ≡ true → ⊥
one_choice true e h = cc e
one_choice false e h = cc h

-- A file that fails is none, or breaches its row.
pub file_breach : (t : Placed) (f : MeaningFault) → Fails None t f → ((has_keyword keywords.Edif (bare t) ≡ false) × (f ≡ misplaced BadForm file_row t)) ⊎ RowFault keywords.Edif t f
file_breach t f h = go (has_keyword keywords.Edif (bare t)) refl
  where
    go : (b : Bool) → has_keyword keywords.Edif (bare t) ≡ b → ((has_keyword keywords.Edif (bare t) ≡ false) × (f ≡ misplaced BadForm file_row t)) ⊎ RowFault keywords.Edif t f
    go true e = inr (breach None keywords.Edif t f refl e h)
    go false e = elim h [ inl b ↦ inl (e, b.1) | inr b ↦ absurd (one_choice (has_keyword keywords.Edif (bare t)) e b.3) ]
