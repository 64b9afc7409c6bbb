-- An argument that is not what its row wants in its place.
use Rattle.std.proofs.Common.{◌≡◌, ℕ, List, [], ◌∷◌, refl, sym, ap, ◌∙◌, subst, inl, inr, Bool, true, false, Option, Some, None}
use Rattle.std.specs.Prelude.{◌||◌, cond}
use Rattle.std.specs.List.{list_any}
use Rattle.std.proofs.lemmas.Bool.{and_right}
use Rattle.edif_spelling_spec.specs.Tree.{Bare, Placed, Form', Word', Integer', String', End, More, bare}
use Rattle.edif_spec.specs.Keyword.{keyword, all_keywords, same, spelling_of, FormRow, Takes, Skips, Choice, AnIdentifier, AnInteger, AString, AForm, Follower, Many, One}
use Rattle.edif_spec.specs.Rows.{has_keyword, is_one_of}
use Rattle.edif_spec.specs.Faults.{row_has, misplaced, place_of, token_kind}
use Rattle.edif_tree.specs.Nodes as nodes
use Rattle.edif_spec.specs.declared.keyword.Keyword.{Keyword}
use Rattle.edif_spec.specs.declared.fault.Kind.{Kind}
use Rattle.edif_spec.specs.declared.fault.Kind.TheVariants.{BadForm, BadVersion, BadLevel}
use Rattle.edif_spec.specs.declared.fault.MeaningFault.TheVariants.{NotInProfile, At}
use Rattle.edif_grammar.specs.Forms.{HasOwnKind, is_form, has_form}
use Rattle.edif_grammar.specs.Rules.{with_keyword, argument_of, one_fits, follows, row_fits, first_word, has_own_kind, is_token}
use Rattle.edif_grammar.specs.Checks.{ArgumentFits}
use Rattle.edif_grammar.specs.declared.rules.Argument.{Argument}
use Rattle.edif_grammar.specs.declared.rules.Argument.TheVariants as arguments
use Rattle.edif_grammar.proofs.KeywordLemmas.{first_same}
use Rattle.edif_grammar.proofs.RuleLemmas.{row_fits_is, one_fits_is, bad_form_else}

pub place_is : (t : Placed) → nodes.place_of t ≡ place_of t
place_is (Form' p ts) = refl
place_is (Word' p x) = refl
place_is (Integer' p x) = refl
place_is (String' p x) = refl

-- A form that begins with a name.
pub told : (t : Bare) (name : List ℕ) → first_word t ≡ Some name → argument_of t ≡ with_keyword (keyword name)
told (Form' p (More (Word' q x) ts)) name e = let w : x ≡ name = cc e in ap (λ v. with_keyword (keyword v)) w
told (Form' p (More (Form' q us) ts)) name e = absurd (cc e)
told (Form' p (More (Integer' q z) ts)) name e = absurd (cc e)
told (Form' p (More (String' q s) ts)) name e = absurd (cc e)
told (Form' p End) name e = absurd (cc e)
told (Word' p x) name e = absurd (cc e)
told (Integer' p x) name e = absurd (cc e)
told (String' p x) name e = absurd (cc e)

named_form : (t : Bare) (name : List ℕ) → first_word t ≡ Some name → is_form t ≡ true
named_form (Form' p ts) name e = refl
named_form (Word' p x) name e = absurd (cc e)
named_form (Integer' p x) name e = absurd (cc e)
named_form (String' p x) name e = absurd (cc e)

pub keyword_named : (k : Keyword) (t : Bare) (name : List ℕ) → first_word t ≡ Some name → has_keyword k t ≡ same name (spelling_of k)
keyword_named k (Form' p (More (Word' q x) ts)) name e = let w : x ≡ name = cc e in ap (λ v. same v (spelling_of k)) w
keyword_named k (Form' p (More (Form' q us) ts)) name e = absurd (cc e)
keyword_named k (Form' p (More (Integer' q z) ts)) name e = absurd (cc e)
keyword_named k (Form' p (More (String' q s) ts)) name e = absurd (cc e)
keyword_named k (Form' p End) name e = absurd (cc e)
keyword_named k (Word' p x) name e = absurd (cc e)
keyword_named k (Integer' p x) name e = absurd (cc e)
keyword_named k (String' p x) name e = absurd (cc e)

pub keyword_unnamed : (k : Keyword) (t : Bare) → first_word t ≡ None → has_keyword k t ≡ false
keyword_unnamed k (Form' p (More (Word' q x) ts)) e = absurd (cc e)
keyword_unnamed k (Form' p (More (Form' q us) ts)) e = refl
keyword_unnamed k (Form' p (More (Integer' q z) ts)) e = refl
keyword_unnamed k (Form' p (More (String' q s) ts)) e = refl
keyword_unnamed k (Form' p End) e = refl
keyword_unnamed k (Word' p x) e = refl
keyword_unnamed k (Integer' p x) e = refl
keyword_unnamed k (String' p x) e = refl

-- what has a keyword begins with a name
pub named : (k : Keyword) (t : Bare) → has_keyword k t ≡ true → first_word t ≡ None → ⊥
named k t h e = let w : true ≡ false = sym h ∙ keyword_unnamed k t e in cc w

pub keyword_found : (k : Keyword) (t : Bare) (name : List ℕ) → first_word t ≡ Some name → keyword name ≡ Some k → has_keyword k t ≡ true
keyword_found k t name e f = keyword_named k t name e ∙ first_same name all_keywords k f

misplaced_in : (b : Bool) (p : ℕ) (name : List ℕ) → b ≡ true → cond b (At BadForm p) (NotInProfile name p) ≡ At BadForm p
misplaced_in true p name e = refl
misplaced_in false p name e = absurd (cc e)

misplaced_out : (b : Bool) (p : ℕ) (name : List ℕ) → b ≡ false → cond b (At BadForm p) (NotInProfile name p) ≡ NotInProfile name p
misplaced_out true p name e = absurd (cc e)
misplaced_out false p name e = refl

-- a form that the row has elsewhere is a bad form
pub elsewhere : (kind : Kind) (r : FormRow) (t : Placed) (name : List ℕ) → first_word (bare t) ≡ Some name → row_has r (bare t) ≡ true → misplaced kind r t ≡ At BadForm (place_of t)
elsewhere kind r (Form' p (More (Word' q x) ts)) name e h = misplaced_in (row_has r (bare (Form' p (More (Word' q x) ts)))) p x h
elsewhere kind r (Form' p (More (Form' q us) ts)) name e h = absurd (cc e)
elsewhere kind r (Form' p (More (Integer' q z) ts)) name e h = absurd (cc e)
elsewhere kind r (Form' p (More (String' q s) ts)) name e h = absurd (cc e)
elsewhere kind r (Form' p End) name e h = absurd (cc e)
elsewhere kind r (Word' p x) name e h = absurd (cc e)
elsewhere kind r (Integer' p x) name e h = absurd (cc e)
elsewhere kind r (String' p x) name e h = absurd (cc e)

-- a form that the row has nowhere is outside the profile
pub nowhere : (kind : Kind) (r : FormRow) (t : Placed) (name : List ℕ) → first_word (bare t) ≡ Some name → row_has r (bare t) ≡ false → misplaced kind r t ≡ NotInProfile name (place_of t)
nowhere kind r (Form' p (More (Word' q x) ts)) name e h =
    let w : x ≡ name = cc e in misplaced_out (row_has r (bare (Form' p (More (Word' q x) ts)))) p x h ∙ ap (λ v. NotInProfile v p) w
nowhere kind r (Form' p (More (Form' q us) ts)) name e h = absurd (cc e)
nowhere kind r (Form' p (More (Integer' q z) ts)) name e h = absurd (cc e)
nowhere kind r (Form' p (More (String' q s) ts)) name e h = absurd (cc e)
nowhere kind r (Form' p End) name e h = absurd (cc e)
nowhere kind r (Word' p x) name e h = absurd (cc e)
nowhere kind r (Integer' p x) name e h = absurd (cc e)
nowhere kind r (String' p x) name e h = absurd (cc e)

-- what begins with no name is a bad form
pub nameless : (r : FormRow) (t : Placed) → first_word (bare t) ≡ None → misplaced BadForm r t ≡ At BadForm (place_of t)
nameless r (Form' p (More (Word' q x) ts)) e = absurd (cc e)
nameless r (Form' p (More (Form' q us) ts)) e = refl
nameless r (Form' p (More (Integer' q z) ts)) e = refl
nameless r (Form' p (More (String' q s) ts)) e = refl
nameless r (Form' p End) e = refl
nameless r (Word' p x) e = refl
nameless r (Integer' p x) e = refl
nameless r (String' p x) e = refl

-- No row has a form without a keyword of the table.
strange_one : (cs : List Choice) → one_fits cs arguments.Strange ≡ false
strange_one [] = refl
strange_one (AnIdentifier ∷ cs) = strange_one cs
strange_one (AnInteger ∷ cs) = strange_one cs
strange_one (AString ∷ cs) = strange_one cs
strange_one (AForm k ∷ cs) = strange_one cs

strange_any : (cs : List (List Choice)) → list_any (λ c. one_fits c arguments.Strange) cs ≡ false
strange_any [] = refl
strange_any (c ∷ cs) = ap (λ b. b || list_any (λ c. one_fits c arguments.Strange) cs) (strange_one c) ∙ strange_any cs

strange_follows : (fs : List Follower) → follows fs arguments.Strange ≡ false
strange_follows [] = refl
strange_follows (Many k ∷ fs) = strange_follows fs
strange_follows (One k ∷ fs) = strange_follows fs

strange_row : (r : FormRow) → row_fits r arguments.Strange ≡ false
strange_row Skips = refl
strange_row (Takes cs fs) = ap (λ b. b || follows fs arguments.Strange) (strange_any cs) ∙ strange_follows fs

strange_out : (r : FormRow) (t : Bare) → argument_of t ≡ arguments.Strange → row_has r t ≡ false
strange_out r t e = sym (row_fits_is r t) ∙ (ap (row_fits r) e ∙ strange_row r)

pub unknown_out : (r : FormRow) (t : Bare) (name : List ℕ) → first_word t ≡ Some name → keyword name ≡ None → row_has r t ≡ false
unknown_out r t name e n = strange_out r t (told t name e ∙ ap with_keyword n)

pub no_form : (r : FormRow) (t : Bare) → row_has r t ≡ false → has_form r t ≡ false
no_form r t e = and_right (is_form t) (row_has r t) e

pub nameless_out : (r : FormRow) (t : Bare) → first_word t ≡ None → has_form r t ≡ false
nameless_out r (Form' p (More (Word' q x) ts)) e = absurd (cc e)
nameless_out r (Form' p (More (Form' q us) ts)) e = no_form r (Form' p (More (Form' q us) ts)) (strange_out r (Form' p (More (Form' q us) ts)) refl)
nameless_out r (Form' p (More (Integer' q z) ts)) e = no_form r (Form' p (More (Integer' q z) ts)) (strange_out r (Form' p (More (Integer' q z) ts)) refl)
nameless_out r (Form' p (More (String' q s) ts)) e = no_form r (Form' p (More (String' q s) ts)) (strange_out r (Form' p (More (String' q s) ts)) refl)
nameless_out r (Form' p End) e = no_form r (Form' p End) (strange_out r (Form' p End) refl)
nameless_out r (Word' p x) e = refl
nameless_out r (Integer' p x) e = refl
nameless_out r (String' p x) e = refl

-- a form with a keyword that is found
pub found_in : (r : FormRow) (t : Bare) (name : List ℕ) (k : Keyword) → first_word t ≡ Some name → keyword name ≡ Some k → row_fits r (arguments.Form k) ≡ row_has r t
found_in r t name k e f = ap (row_fits r) (sym (told t name e ∙ ap with_keyword f)) ∙ row_fits_is r t

-- Tokens.
token_form : (o : Option Keyword) → is_token (with_keyword o) ≡ false
token_form None = refl
token_form (Some k) = refl

token_at : (kind : Kind) (r : FormRow) (t : Placed) → is_token (argument_of (bare t)) ≡ true → misplaced kind r t ≡ At kind (place_of t)
token_at kind r (Word' p x) e = refl
token_at kind r (Integer' p x) e = refl
token_at kind r (String' p x) e = refl
token_at kind r (Form' p End) e = absurd (cc e)
token_at kind r (Form' p (More (Form' q us) ts)) e = absurd (cc e)
token_at kind r (Form' p (More (Integer' q z) ts)) e = absurd (cc e)
token_at kind r (Form' p (More (String' q s) ts)) e = absurd (cc e)
token_at kind r (Form' p (More (Word' q x) ts)) e = absurd (let w : false ≡ true = sym (token_form (keyword x)) ∙ e in cc w)

-- a form is wrong in one way whatever its row is
pub form_alike : (kind : Kind) (r : FormRow) (t : Placed) → is_token (argument_of (bare t)) ≡ false → misplaced BadForm r t ≡ misplaced kind r t
form_alike kind r (Word' p x) e = absurd (cc e)
form_alike kind r (Integer' p x) e = absurd (cc e)
form_alike kind r (String' p x) e = absurd (cc e)
form_alike kind r (Form' p End) e = refl
form_alike kind r (Form' p (More (Form' q us) ts)) e = refl
form_alike kind r (Form' p (More (Integer' q z) ts)) e = refl
form_alike kind r (Form' p (More (String' q s) ts)) e = refl
form_alike kind r (Form' p (More (Word' q x) ts)) e = refl

own_at : (kind : Kind) (p : ℕ) → has_own_kind kind ≡ true → HasOwnKind (At kind p)
own_at BadVersion p e = tt
own_at BadLevel p e = tt
own_at _ p e = absurd (cc e)

-- what passes
pub choice_passes : (kind : Kind) (r : FormRow) (cs : List Choice) (t : Placed) (a : Argument) → a ≡ argument_of (bare t) → one_fits cs a ≡ true → ArgumentFits kind r cs t
choice_passes kind r cs t a e h = inl (sym (one_fits_is cs (bare t)) ∙ (ap (one_fits cs) (sym e) ∙ h))

pub token_passes : (kind : Kind) (r : FormRow) (cs : List Choice) (t : Placed) (a : Argument) → a ≡ argument_of (bare t) → is_token a ≡ true → has_own_kind kind ≡ true → ArgumentFits kind r cs t
token_passes kind r cs t a e h o =
    let w : misplaced kind r t ≡ At kind (place_of t) = token_at kind r t (ap is_token (sym e) ∙ h) in inr (subst HasOwnKind (sym w) (own_at kind (place_of t) o))

-- what does not
pub no_choice : (cs : List Choice) (t : Placed) (a : Argument) → a ≡ argument_of (bare t) → one_fits cs a ≡ false → is_one_of cs (bare t) ≡ false
no_choice cs t a e h = sym (one_fits_is cs (bare t)) ∙ (ap (one_fits cs) (sym e) ∙ h)

pub form_stays : (k : Keyword) (r : FormRow) (t : Placed) (a : Argument) → a ≡ argument_of (bare t) → is_token a ≡ false → misplaced BadForm r t ≡ misplaced (token_kind k) r t
form_stays k r t a e h = form_alike (token_kind k) r t (ap is_token (sym e) ∙ h)

pub kind_stays : (k : Keyword) (r : FormRow) (t : Placed) → has_own_kind (token_kind k) ≡ false → misplaced BadForm r t ≡ misplaced (token_kind k) r t
kind_stays k r t h = ap (λ v. misplaced v r t) (sym (bad_form_else k h))
