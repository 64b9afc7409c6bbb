-- A file as a tree of forms, and the tokens that it is written with.
use Rattle.std.specs.Prelude.{ℕ, suc, ℤ, List, [], ◌∷◌, ◌++◌, max}
use Rattle.edif_spelling_spec.specs.declared.token.TokenKind.{TokenKind}
use Rattle.edif_spelling_spec.specs.declared.token.TokenKind.TheVariants.{LeftParen, RightParen, Word, Integer, String}

-- A form with its arguments, or one token. P is what stands beside each node, as its place.
mutual
  pub data Tree (P : Type 0) : Type 0 where
    Form' : (at : P) (arguments : Trees P) → Tree P
    Word' : (at : P) (name : List ℕ) → Tree P
    Integer' : (at : P) (value : ℤ) → Tree P
    String' : (at : P) (value : List ℕ) → Tree P

  pub data Trees (P : Type 0) : Type 0 where
    End : Trees P
    More : (first : Tree P) (rest : Trees P) → Trees P

-- a tree with nothing beside its nodes
abbrev pub Bare : Type 0
Bare = Tree (Unit {0})

-- a tree with the place of each node
abbrev pub Placed : Type 0
Placed = Tree ℕ

-- the arguments of a form, from a list
abbrev pub trees : {P : Type 0} → List (Tree P) → Trees P
trees [] = End
trees (t ∷ ts) = More t (trees ts)

-- the arguments of a form, as a list
abbrev pub items : {P : Type 0} → Trees P → List (Tree P)
items End = []
items (More t ts) = t ∷ items ts

-- a bare form
abbrev pub form : List Bare → Bare
form ts = Form' tt (trees ts)

-- a bare word
abbrev pub word : List ℕ → Bare
word name = Word' tt name

-- a bare integer
abbrev pub integer : ℤ → Bare
integer value = Integer' tt value

-- a bare string
abbrev pub string : List ℕ → Bare
string value = String' tt value

-- the tokens of a tree
abbrev mutual
  pub listing : {P : Type 0} → Tree P → List TokenKind
  listing (Form' p ts) = LeftParen ∷ (listings ts ++ RightParen ∷ [])
  listing (Word' p name) = Word name ∷ []
  listing (Integer' p value) = Integer value ∷ []
  listing (String' p value) = String value ∷ []

  pub listings : {P : Type 0} → Trees P → List TokenKind
  listings End = []
  listings (More t ts) = listing t ++ listings ts

-- the greatest level of a form of the tree, where the tree itself is at level 1
abbrev mutual
  pub depth : {P : Type 0} → Tree P → ℕ
  depth (Form' p ts) = suc (depths ts)
  depth (Word' p name) = 0
  depth (Integer' p value) = 0
  depth (String' p value) = 0

  pub depths : {P : Type 0} → Trees P → ℕ
  depths End = 0
  depths (More t ts) = max (depth t) (depths ts)

-- the tree without what stands beside its nodes
abbrev mutual
  pub bare : {P : Type 0} → Tree P → Bare
  bare (Form' p ts) = Form' tt (bares ts)
  bare (Word' p name) = Word' tt name
  bare (Integer' p value) = Integer' tt value
  bare (String' p value) = String' tt value

  pub bares : {P : Type 0} → Trees P → Trees (Unit {0})
  bares End = End
  bares (More t ts) = More (bare t) (bares ts)
