-- When a form fits the row of its keyword, and words for what its followers mean.
use Rattle.std.specs.Prelude.{◌≡◌, ℕ, ◌≤◌, List, [], ◌∷◌, ◌++◌, length, filter, Bool, true, false, ◌||◌, Option, Some, None, IsTrue}
use Rattle.std.specs.List.{list_all, AllZip}
use Rattle.edif_spelling_spec.specs.Tree.{Bare, Form', Word', Integer', String', More, form, word}
use Rattle.edif_spec.specs.Keyword.{spelling_of, same, row, FormRow, Takes, Skips, Choice, AnIdentifier, AnInteger, AString, AForm, Follower, Many, One}
use Rattle.edif_spec.specs.declared.keyword.Keyword.{Keyword}

-- the tree is a form whose keyword is spelled so, ignoring case
abbrev pub is_named : List ℕ → Bare → Bool
is_named s (Form' p (More (Word' q name) ts)) = same name s
is_named s _ = false

-- the tree is a form with this keyword
abbrev pub has_keyword : Keyword → Bare → Bool
has_keyword k t = is_named (spelling_of k) t

-- the forms with one keyword, in order
abbrev pub those : Keyword → List Bare → List Bare
those k ts = filter (has_keyword k) ts

-- an argument is one of the choices
abbrev pub is_choice : Choice → Bare → Bool
is_choice AnIdentifier (Word' p name) = true
is_choice AnIdentifier _ = false
is_choice AnInteger (Integer' p z) = true
is_choice AnInteger _ = false
is_choice AString (String' p text) = true
is_choice AString _ = false
is_choice (AForm k) t = has_keyword k t

-- an argument is one of several choices
abbrev pub is_one_of : List Choice → Bare → Bool
is_one_of [] t = false
is_one_of (c ∷ cs) t = is_choice c t || is_one_of cs t

-- a follower is a form that the row names
abbrev pub is_follower : List Follower → Bare → Bool
is_follower [] t = false
is_follower (Many k ∷ fs) t = has_keyword k t || is_follower fs t
is_follower (One k ∷ fs) t = has_keyword k t || is_follower fs t

-- no form of which one is allowed stands twice
abbrev pub AtMostOnce : List Follower → List Bare → Type 0
AtMostOnce [] ts = Unit {0}
AtMostOnce (Many k ∷ fs) ts = AtMostOnce fs ts
AtMostOnce (One k ∷ fs) ts = (length (those k ts) ≤ 1) × AtMostOnce fs ts

-- The arguments fit the row: the fixed ones in order, and then what may follow them, in any order.
abbrev pub FitsRow : FormRow → List Bare → List Bare → Type 0
FitsRow Skips fixed inner = fixed ≡ []
FitsRow (Takes choices followers) fixed inner =
    AllZip (λ cs t. IsTrue (is_one_of cs t)) choices fixed × IsTrue (list_all (is_follower followers) inner) × AtMostOnce followers inner

-- the tree is a form of this keyword, with these arguments, and fits its row
pub record IsFormOf (k : Keyword) (t : Bare) (fixed inner : List Bare) : Type 0 where
  pub spelled : List ℕ
  pub is : t ≡ form (word spelled ∷ (fixed ++ inner))
  pub keyword : IsTrue (same spelled (spelling_of k))
  pub fits : FitsRow (row k) fixed inner

-- each tree means the value at its place
abbrev pub Each : {A : Type 0} → (Bare → A → Type 0) → List Bare → List A → Type 0
Each means ts xs = AllZip means ts xs

-- each tree means the value at its place, by those before it
abbrev pub EachAfter : {A : Type 0} → (List A → Bare → A → Type 0) → List A → List Bare → List A → Type 0
EachAfter means before [] [] = Unit {0}
EachAfter means before [] (x ∷ xs) = ⊥
EachAfter means before (t ∷ ts) [] = ⊥
EachAfter means before (t ∷ ts) (x ∷ xs) = means before t x × EachAfter means (before ++ x ∷ []) ts xs

-- there is no tree and no value, or one tree, which means the value
abbrev pub Perhaps : {A : Type 0} → (Bare → A → Type 0) → List Bare → Option A → Type 0
Perhaps means [] None = Unit {0}
Perhaps means [] (Some x) = ⊥
Perhaps means (t ∷ []) None = ⊥
Perhaps means (t ∷ []) (Some x) = means t x
Perhaps means (t ∷ u ∷ ts) o = ⊥

-- there is one tree, which means the value
abbrev pub Just : {A : Type 0} → (Bare → A → Type 0) → List Bare → A → Type 0
Just means [] x = ⊥
Just means (t ∷ []) x = means t x
Just means (t ∷ u ∷ ts) x = ⊥
