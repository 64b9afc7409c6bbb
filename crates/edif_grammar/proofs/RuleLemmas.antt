-- What rows tell of an argument is what the table says of it.
use Rattle.std.proofs.Common.{◌≡◌, ℕ, List, [], ◌∷◌, refl, sym, ap, ◌∙◌, Bool, true, false, Option, Some, None}
use Rattle.std.specs.Prelude.{◌||◌}
use Rattle.std.specs.List.{list_any}
use Rattle.edif_spelling_spec.specs.Tree.{Bare, Form', Word', Integer', String', End, More}
use Rattle.edif_spec.specs.Keyword.{keyword, all_keywords, same, spelling_of, FormRow, Takes, Skips, Choice, AnIdentifier, AnInteger, AString, AForm, Follower, Many, One}
use Rattle.edif_spec.specs.Rows.{has_keyword, is_choice, is_one_of, is_follower}
use Rattle.edif_spec.specs.Faults.{row_has, token_kind}
use Rattle.edif_spec.specs.declared.keyword.Keyword.{Keyword}
use Rattle.edif_spec.specs.declared.keyword.Keyword.TheVariants as keywords
use Rattle.edif_spec.specs.declared.fault.Kind.TheVariants.{BadForm}
use Rattle.edif_grammar.specs.Rules.{with_keyword, argument_of, choice_fits, one_fits, follows, row_fits, has_own_kind}
use Rattle.edif_grammar.proofs.KeywordLemmas.{same_alike, same_self, found, first_same}

form_fits : (k : Keyword) (name : List ℕ) (o : Option Keyword) → keyword name ≡ o → choice_fits (AForm k) (with_keyword o) ≡ same name (spelling_of k)
form_fits k name (Some j) e = sym (same_alike name (spelling_of j) (spelling_of j) (spelling_of k) (first_same name all_keywords j e) (same_self (spelling_of j)))
form_fits k name None e = go (same name (spelling_of k)) refl
  where
    go : (b : Bool) → same name (spelling_of k) ≡ b → false ≡ b
    go true h = absurd (let w : None ≡ Some k = sym e ∙ found name k h in cc w)
    go false h = refl

pub keyword_fits : (k : Keyword) (t : Bare) → choice_fits (AForm k) (argument_of t) ≡ has_keyword k t
keyword_fits k (Form' p (More (Word' q name) ts)) = form_fits k name (keyword name) refl
keyword_fits k (Form' p (More (Form' q us) ts)) = refl
keyword_fits k (Form' p (More (Integer' q z) ts)) = refl
keyword_fits k (Form' p (More (String' q s) ts)) = refl
keyword_fits k (Form' p End) = refl
keyword_fits k (Word' p w) = refl
keyword_fits k (Integer' p z) = refl
keyword_fits k (String' p s) = refl

token_fits_form : (c : Choice) (o : Option Keyword) → ((k : Keyword) → c ≡ AForm k → ⊥) → choice_fits c (with_keyword o) ≡ false
token_fits_form AnIdentifier None n = refl
token_fits_form AnInteger None n = refl
token_fits_form AString None n = refl
token_fits_form (AForm k) None n = refl
token_fits_form AnIdentifier (Some j) n = refl
token_fits_form AnInteger (Some j) n = refl
token_fits_form AString (Some j) n = refl
token_fits_form (AForm k) (Some j) n = absurd (n k refl)

pub fits_is : (c : Choice) (t : Bare) → choice_fits c (argument_of t) ≡ is_choice c t
fits_is (AForm k) t = keyword_fits k t
fits_is AnIdentifier (Form' p (More (Word' q name) ts)) = token_fits_form AnIdentifier (keyword name) (λ k e. cc e)
fits_is AnIdentifier (Form' p (More (Form' q us) ts)) = refl
fits_is AnIdentifier (Form' p (More (Integer' q z) ts)) = refl
fits_is AnIdentifier (Form' p (More (String' q s) ts)) = refl
fits_is AnIdentifier (Form' p End) = refl
fits_is AnIdentifier (Word' p w) = refl
fits_is AnIdentifier (Integer' p z) = refl
fits_is AnIdentifier (String' p s) = refl
fits_is AnInteger (Form' p (More (Word' q name) ts)) = token_fits_form AnInteger (keyword name) (λ k e. cc e)
fits_is AnInteger (Form' p (More (Form' q us) ts)) = refl
fits_is AnInteger (Form' p (More (Integer' q z) ts)) = refl
fits_is AnInteger (Form' p (More (String' q s) ts)) = refl
fits_is AnInteger (Form' p End) = refl
fits_is AnInteger (Word' p w) = refl
fits_is AnInteger (Integer' p z) = refl
fits_is AnInteger (String' p s) = refl
fits_is AString (Form' p (More (Word' q name) ts)) = token_fits_form AString (keyword name) (λ k e. cc e)
fits_is AString (Form' p (More (Form' q us) ts)) = refl
fits_is AString (Form' p (More (Integer' q z) ts)) = refl
fits_is AString (Form' p (More (String' q s) ts)) = refl
fits_is AString (Form' p End) = refl
fits_is AString (Word' p w) = refl
fits_is AString (Integer' p z) = refl
fits_is AString (String' p s) = refl

pub one_fits_is : (cs : List Choice) (t : Bare) → one_fits cs (argument_of t) ≡ is_one_of cs t
one_fits_is [] t = refl
one_fits_is (c ∷ cs) t = ap (λ b. b || one_fits cs (argument_of t)) (fits_is c t) ∙ ap (λ b. is_choice c t || b) (one_fits_is cs t)

pub follows_is : (fs : List Follower) (t : Bare) → follows fs (argument_of t) ≡ is_follower fs t
follows_is [] t = refl
follows_is (Many k ∷ fs) t = ap (λ b. b || follows fs (argument_of t)) (keyword_fits k t) ∙ ap (λ b. has_keyword k t || b) (follows_is fs t)
follows_is (One k ∷ fs) t = ap (λ b. b || follows fs (argument_of t)) (keyword_fits k t) ∙ ap (λ b. has_keyword k t || b) (follows_is fs t)

any_fits : (cs : List (List Choice)) (t : Bare) → list_any (λ c. one_fits c (argument_of t)) cs ≡ list_any (λ c. is_one_of c t) cs
any_fits [] t = refl
any_fits (c ∷ cs) t =
    ap (λ b. b || list_any (λ c. one_fits c (argument_of t)) cs) (one_fits_is c t) ∙ ap (λ b. is_one_of c t || b) (any_fits cs t)

pub row_fits_is : (r : FormRow) (t : Bare) → row_fits r (argument_of t) ≡ row_has r t
row_fits_is Skips t = refl
row_fits_is (Takes cs fs) t =
    ap (λ b. b || follows fs (argument_of t)) (any_fits cs t) ∙ ap (λ b. list_any (λ c. is_one_of c t) cs || b) (follows_is fs t)

-- a kind that is none of its own is that of a bad form
pub bad_form_else : (k : Keyword) → has_own_kind (token_kind k) ≡ false → token_kind k ≡ BadForm
bad_form_else keywords.EdifVersion h = absurd (cc h)
bad_form_else keywords.EdifLevel h = absurd (cc h)
bad_form_else keywords.KeywordLevel h = absurd (cc h)
bad_form_else _ h = refl
