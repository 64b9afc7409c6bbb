-- What stands in a tree that is being made, after some tokens.
use Rattle.std.specs.Prelude.{◌≡◌, ◌<◌, ◌⊎◌, ℕ, zero, suc, List, [], ◌∷◌, ◌++◌, length, Option, true}
use Rattle.edif_spelling_spec.specs.Tree.{Placed, Trees, Form', Word', Integer', String', End, More}
use Rattle.edif_spelling_spec.specs.TreeFaults.{token_at, Lists, ListsAll, TreeFault, fault_within, tree_fault}
use Rattle.edif_spelling_spec.specs.declared.token.Token.{Token}
use Rattle.edif_spelling_spec.specs.declared.token.TokenKind.{TokenKind}
use Rattle.edif_spelling_spec.specs.declared.token.TokenKind.TheVariants.{LeftParen, RightParen, Word, Integer, String}
use Rattle.netlist_schema.specs.declared.limits.TheConstants.{MOST_LEVELS}
use Rattle.edif_tree.specs.Nodes.{FormOf, IntegerOf, StringOf, WordOf, Seen, NodeRow, AreAt}
use Rattle.edif_tree.specs.Order.{in_order_from}
use Rattle.edif_tree.specs.declared.stored.NodeId.{NodeId}
use Rattle.edif_tree.specs.declared.making.OpenForm.{OpenForm}
use Rattle.edif_tree.specs.declared.making.Making.{Making}

-- a token of its own: a word, an integer or a string
abbrev pub IsLeaf : TokenKind → Type 0
IsLeaf LeftParen = ⊥
IsLeaf RightParen = ⊥
IsLeaf _ = Unit {0}

-- what is seen of the node of such a token
abbrev pub leaf_of : TokenKind → Seen
leaf_of (Word name) = WordOf name
leaf_of (Integer value) = IntegerOf value
leaf_of (String value) = StringOf value
leaf_of _ = FormOf []

-- the tree is that of the row, which may stand in the list of nodes later: its place, its kind, and its arguments at nodes of the list
abbrev pub IsRow : List NodeRow → NodeRow → Placed → Type 0
IsRow rows row (Form' place arguments) = (ids : List NodeId) × (row ≡ record { place = place; shape = FormOf ids }) × AreAt rows ids arguments
IsRow rows row (Word' place name) = row ≡ record { place = place; shape = WordOf name }
IsRow rows row (Integer' place value) = row ≡ record { place = place; shape = IntegerOf value }
IsRow rows row (String' place value) = row ≡ record { place = place; shape = StringOf value }

abbrev pub AreRows : List NodeRow → List NodeRow → Trees ℕ → Type 0
AreRows rows [] End = Unit {0}
AreRows rows [] (More t ts) = ⊥
AreRows rows (row ∷ more) End = ⊥
AreRows rows (row ∷ more) (More t ts) = IsRow rows row t × AreRows rows more ts

-- an open form: the place of its `(`, and its arguments so far
pub record Level : Type 0 where
  pub place : ℕ
  pub arguments : Trees ℕ

-- The innermost open form, and what stands round it: its nodes are the last of those that no closed form holds, and its tokens
-- the last of those read.
pub record InForm (Outer : List OpenForm → List NodeRow → List Token → Type 0) (rows : List NodeRow) (level : Level) (forms : List OpenForm) (loose : List NodeRow) (read : List Token) : Type 0 where
  pub outer : List OpenForm
  pub others : List NodeRow
  pub inside : List NodeRow
  pub before : List Token
  pub inner : List Token
  pub opened : forms ≡ outer ++ record { place = level.place; start = length others } ∷ []
  pub nodes : loose ≡ others ++ inside
  pub parts : read ≡ before ++ token_at LeftParen level.place ∷ inner
  pub standing : AreRows rows inside level.arguments
  pub listed : ListsAll inner level.arguments
  pub round : Outer outer others before

-- these forms are open, the innermost first
abbrev pub InForms : List NodeRow → List Level → List OpenForm → List NodeRow → List Token → Type 0
InForms rows [] forms loose read = (forms ≡ []) × (loose ≡ []) × (read ≡ [])
InForms rows (level ∷ levels) forms loose read = InForm (InForms rows levels) rows level forms loose read

-- the first fault where so many forms are open, or nothing is read
abbrev pub fault_from : ℕ → List Token → ℕ → Option TreeFault
fault_from zero tokens end = tree_fault tokens end
fault_from (suc outer) tokens end = fault_within (suc outer) tokens end

-- the file's form isn't closed
pub record IsOpen (maker : Making) (read : List Token) : Type 0 where
  pub levels : List Level
  pub order : in_order_from 0 maker.nodes.rows ≡ true
  pub forms : InForms maker.nodes.rows levels maker.forms.items maker.nodes.loose read
  pub faults : (rest : List Token) (end : ℕ) → tree_fault (read ++ rest) end ≡ fault_from (length levels) rest end

-- the file's form is closed
pub record IsClosed (maker : Making) (read : List Token) : Type 0 where
  pub row : NodeRow
  pub tree : Placed
  pub order : in_order_from 0 maker.nodes.rows ≡ true
  pub forms : maker.forms.items ≡ []
  pub loose : maker.nodes.loose ≡ row ∷ []
  pub standing : IsRow maker.nodes.rows row tree
  pub listed : Lists read tree
  pub faults : (rest : List Token) (end : ℕ) → tree_fault (read ++ rest) end ≡ fault_within 0 rest end

-- the maker has read these tokens, and they have no fault but that they may end too early
abbrev pub HasRead : Making → List Token → Type 0
HasRead maker read = IsOpen maker read ⊎ IsClosed maker read

-- the token can come next
abbrev pub CanCome : TokenKind → Making → Type 0
CanCome LeftParen maker = (length maker.forms.items < MOST_LEVELS) × (length maker.forms.items ≡ 0 → length maker.nodes.loose ≡ 0)
CanCome _ maker = 0 < length maker.forms.items
