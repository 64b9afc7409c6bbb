-- Which tree tokens are those of, and their first tree fault.
use Rattle.std.specs.Prelude.{◌≡◌, ◌≤◌, ◌⊎◌, ℕ, zero, suc, nat_lt, if◌then◌else◌, List, [], ◌∷◌, ◌++◌, Option, None, Some}
use Rattle.edif_spelling_spec.specs.Tree.{Placed, Trees, Form', Word', Integer', String', End, More, bare, depth}
use Rattle.edif_spelling_spec.specs.Spelling.{IsForm}
use Rattle.edif_spelling_spec.specs.declared.token.Token.{Token}
use Rattle.edif_spelling_spec.specs.declared.token.TokenKind.{TokenKind}
use Rattle.edif_spelling_spec.specs.declared.token.TokenKind.TheVariants.{LeftParen, RightParen, Word, Integer, String}
use Rattle.edif_spelling_spec.specs.declared.tree_fault.TreeKind.{TreeKind}
use Rattle.edif_spelling_spec.specs.declared.tree_fault.TreeKind.TheVariants.{NotForm, ExtraClose, TooDeep, Trailing, Unended}

-- the token of this kind at this place
abbrev pub token_at : TokenKind → ℕ → Token
token_at kind place = record { kind = kind; place = place }

-- the tokens are those of the tree, and each node stands at the place of its first token
abbrev mutual
  pub Lists : List Token → Placed → Type 0
  Lists tokens (Form' place arguments) = (inner : List Token) × (end : ℕ) × (tokens ≡ token_at LeftParen place ∷ (inner ++ token_at RightParen end ∷ []))
      × ListsAll inner arguments
  Lists tokens (Word' place name) = tokens ≡ token_at (Word name) place ∷ []
  Lists tokens (Integer' place value) = tokens ≡ token_at (Integer value) place ∷ []
  Lists tokens (String' place value) = tokens ≡ token_at (String value) place ∷ []

  pub ListsAll : List Token → Trees ℕ → Type 0
  ListsAll tokens End = tokens ≡ []
  ListsAll tokens (More first rest) = (front : List Token) × (back : List Token) × (tokens ≡ front ++ back) × Lists front first × ListsAll back rest

-- The tokens are those of a file's tree: it is one form, and no form in it is deeper than level 256, where it is itself at
-- level 1.
pub record IsFile (tokens : List Token) (tree : Placed) : Type 0 where
  pub listed : Lists tokens tree
  pub file : IsForm (bare tree)
  pub levels : depth tree ≤ 256

-- a tree fault, and the number of bytes before it
pub record TreeFault : Type 0 where
  pub kind : TreeKind
  pub place : ℕ

-- the fault of this kind at this place
abbrev pub fault_at : TreeKind → ℕ → Option TreeFault
fault_at kind place = Some (record { kind = kind; place = place })

-- the fault at a token behind the file's form: each token there is one, a `)` by its own name
abbrev pub fault_behind : TokenKind → ℕ → Option TreeFault
fault_behind RightParen place = fault_at ExtraClose place
fault_behind _ place = fault_at Trailing place

-- The fault at a token of a form that lies within so many others; where it is none, the first fault of what follows, by the
-- number of forms that are open then.
abbrev pub fault_inside : ℕ → TokenKind → ℕ → (ℕ → Option TreeFault) → Option TreeFault
fault_inside outer LeftParen place rest = if nat_lt (suc outer) 256 then rest (suc (suc outer)) else fault_at TooDeep place
fault_inside outer RightParen place rest = rest outer
fault_inside outer _ place rest = rest (suc outer)

-- the first fault of these tokens where so many forms are open before them: none where the file's form is closed
unfoldable pub fault_within : ℕ → List Token → ℕ → Option TreeFault
fault_within zero [] end = None
fault_within zero (token ∷ tokens) end = fault_behind token.kind token.place
fault_within (suc outer) [] end = fault_at Unended end
fault_within (suc outer) (token ∷ tokens) end = fault_inside outer token.kind token.place (λ opened. fault_within opened tokens end)

-- the fault at the first token; where it is none, the first fault of what follows
abbrev pub fault_first : TokenKind → ℕ → Option TreeFault → Option TreeFault
fault_first LeftParen place rest = rest
fault_first RightParen place rest = fault_at ExtraClose place
fault_first _ place rest = fault_at NotForm place

-- the first tree fault of the tokens of an input that ends at this place, or none
unfoldable pub tree_fault : List Token → ℕ → Option TreeFault
tree_fault [] end = fault_at Unended end
tree_fault (token ∷ tokens) end = fault_first token.kind token.place (fault_within 1 tokens end)

-- the tokens are a file's
abbrev pub IsWhole : List Token → Type 0
IsWhole tokens = (t : Placed) × IsFile tokens t

-- more tokens, or none, make a file of these
abbrev pub GoesOn : List Token → Type 0
GoesOn tokens = (more : List Token) × IsWhole (tokens ++ more)

-- what is wrong with a token where these stand before it
abbrev pub IsNamed : TreeKind → List Token → TokenKind → Type 0
IsNamed NotForm before kind = (before ≡ []) × (kind ≡ LeftParen → ⊥) × (kind ≡ RightParen → ⊥)
IsNamed ExtraClose before kind = ((before ≡ []) ⊎ IsWhole before) × (kind ≡ RightParen)
IsNamed TooDeep before kind = (before ≡ [] → ⊥) × (IsWhole before → ⊥) × (kind ≡ LeftParen)
IsNamed Trailing before kind = IsWhole before × (kind ≡ RightParen → ⊥)
IsNamed Unended before kind = ⊥

-- the first token with which the tokens can't go on to a file, and what is wrong with it
pub record IsFaultyToken (tokens : List Token) (fault : TreeFault) : Type 0 where
  pub before : List Token
  pub token : Token
  pub after : List Token
  pub parts : tokens ≡ before ++ token ∷ after
  pub goes_on : GoesOn before
  pub stops : GoesOn (before ++ token ∷ []) → ⊥
  pub named : IsNamed fault.kind before token.kind
  pub place : fault.place ≡ token.place

-- the tokens can go on to a file, and are none
pub record IsFaultyEnd (tokens : List Token) (end : ℕ) (fault : TreeFault) : Type 0 where
  pub goes_on : GoesOn tokens
  pub unended : IsWhole tokens → ⊥
  pub kind : fault.kind ≡ Unended
  pub place : fault.place ≡ end

-- the fault is the first of the tokens of an input that ends at this place
abbrev pub IsFirstFault : List Token → ℕ → TreeFault → Type 0
IsFirstFault tokens end fault = IsFaultyToken tokens fault ⊎ IsFaultyEnd tokens end fault
