-- Which bytes spell a tree.
use Rattle.std.specs.Prelude.{◌≡◌, ◌≤◌, ℕ, true, List, [], ◌∷◌, ◌++◌}
use Rattle.std.specs.List.{list_all}
use Rattle.edif_spelling_spec.specs.Bytes.{is_space}
use Rattle.edif_spelling_spec.specs.Grammar.{SpellsToken, EndsBefore}
use Rattle.edif_spelling_spec.specs.Tree.{Bare, Form', listing, depth}
use Rattle.edif_spelling_spec.specs.declared.token.TokenKind.{TokenKind}

-- white space, a spelling of the token, and then a rest of which R holds; a word is a longest run
pub record BeginsWith (R : List ℕ → Type 0) (bytes : List ℕ) (kind : TokenKind) : Type 0 where
  pub gap : List ℕ
  pub spelling : List ℕ
  pub rest : List ℕ
  pub parts : bytes ≡ gap ++ (spelling ++ rest)
  pub white : list_all is_space gap ≡ true
  pub spelled : SpellsToken spelling kind
  pub longest : EndsBefore kind rest
  pub others : R rest

-- the bytes are a row of white space and of spellings of these tokens, each word a longest run
abbrev pub SpellsTokens : List ℕ → List TokenKind → Type 0
SpellsTokens bytes [] = list_all is_space bytes ≡ true
SpellsTokens bytes (kind ∷ kinds) = BeginsWith (λ rest. SpellsTokens rest kinds) bytes kind

-- the tree is a form, and no bare token
abbrev pub IsForm : Bare → Type 0
IsForm (Form' p ts) = Unit {0}
IsForm t = ⊥

-- The bytes spell the tree: they are a row of white space and of spellings of its tokens; it is one form; and no form in it
-- is deeper than level 256, where it is itself at level 1.
pub record Spells (bytes : List ℕ) (tree : Bare) : Type 0 where
  pub tokens : SpellsTokens bytes (listing tree)
  pub file : IsForm tree
  pub levels : depth tree ≤ 256
