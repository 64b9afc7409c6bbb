-- What a maker of trees was fed, and what its calls answer.
use Rattle.std.specs.Prelude.{◌≡◌, ◌⊎◌, ℕ, List, ◌++◌, Option, None, Some, Result, Ok, Err}
use Rattle.edif_spelling_spec.specs.Tree.{Placed}
use Rattle.edif_spelling_spec.specs.TreeFaults.{IsFile, fault_at, tree_fault}
use Rattle.edif_spelling_spec.specs.declared.token.Token.{Token}
use Rattle.edif_spelling_spec.specs.declared.tree_fault.TreeKind.TheVariants.{Unended}
use Rattle.edif_tree.specs.Making.{HasRead}
use Rattle.edif_tree.specs.Nodes.{IsAt, Table}
use Rattle.edif_tree.specs.TreeError.{Names}
use Rattle.edif_tree.specs.declared.errors.TreeError.{TreeError}
use Rattle.edif_tree.specs.declared.making.Making.{Making}

-- a maker: the nodes of the tokens so far, and the error that ended it
pub record Maker : Type 0 where
  pub making : Making
  pub failed : Option TreeError

-- the maker was fed these tokens, and no call answered an error
pub record HasTaken (maker : Maker) (fed : List Token) : Type 0 where
  pub goes_on : maker.failed ≡ None
  pub read : HasRead maker.making fed

-- the maker met the first fault of these tokens, whatever follows, or wants memory
pub record HasMet (maker : Maker) (handed : List Token) : Type 0 where
  pub error : TreeError
  pub stopped : maker.failed ≡ Some error
  pub fault : (rest : List Token) (end : ℕ) → Names error (tree_fault (handed ++ rest) end)

-- the maker was handed these tokens
abbrev pub IsHanded : Maker → List Token → Type 0
IsHanded maker handed = HasTaken maker handed ⊎ HasMet maker handed

-- the tokens have no fault, but that they may end too early
abbrev pub HaveNone : List Token → Type 0
HaveNone tokens = (end : ℕ) → (tree_fault tokens end ≡ None) ⊎ (tree_fault tokens end ≡ fault_at Unended end)

-- What it means that `feed` answered so, where the tokens fed before are `fed`. Ok: the maker was fed the piece too, and the tokens have
-- no fault so far. A fault: it is the first one, whatever follows. Want of memory says nothing.
abbrev pub Feeds : (fed piece : List Token) → Maker → Result (Unit {0}) TreeError → Type 0
Feeds fed piece new (Ok _) = HasTaken new (fed ++ piece) × HaveNone (fed ++ piece)
Feeds fed piece new (Err e) = (rest : List Token) (end : ℕ) → Names e (tree_fault (fed ++ piece ++ rest) end)

-- What it means that `finish` answered so, where the tokens are `fed` and the input has so many bytes. Ok: they have no fault, and at the
-- root stands the tree that they are those of. A fault: it is their first one. Want of memory says nothing.
abbrev pub Finishes : List Token → ℕ → Result Table TreeError → Type 0
Finishes fed end (Ok made) = (tree_fault fed end ≡ None) × ((t : Placed) × IsAt made.rows made.root t × IsFile fed t)
Finishes fed end (Err e) = Names e (tree_fault fed end)
