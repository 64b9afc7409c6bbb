-- Which bytes are a design file, and what may be wrong with them.
use Rattle.std.specs.Prelude.{◌≡◌, ◌≤◌, ℕ, List, length, None, Some}
use Rattle.netlist_schema.specs.declared.limits.TheConstants.{MOST_FILE_BYTES}
use Rattle.edif_spelling_spec.specs.Lexing.{tokens, lex_fault}
use Rattle.edif_spelling_spec.specs.Spelling.{Spells}
use Rattle.edif_spelling_spec.specs.Tree.{Bare, Placed}
use Rattle.edif_spelling_spec.specs.TreeFaults.{IsFile, fault_at, tree_fault}
use Rattle.edif_spec.specs.Design.{Design}
use Rattle.edif_spec.specs.Means.{MeansFile}
use Rattle.edif_spec.specs.Stands.{Stands}
use Rattle.edif_spec.specs.declared.file_fault.EdifFault.{EdifFault}
use Rattle.edif_spec.specs.declared.file_fault.EdifFault.TheVariants.{Lex, Tree, Meaning}

-- The bytes are a design file of the design: as many as one may have, they spell a tree that means the design.
pub record IsDesignFile (bytes : List ℕ) (d : Design) : Type 0 where
  pub size : length bytes ≤ MOST_FILE_BYTES
  pub tree : Bare
  pub spelled : Spells bytes tree
  pub means : MeansFile tree d

-- the bytes are a design file of no design
abbrev pub IsNoDesignFile : List ℕ → Type 0
IsNoDesignFile bytes = (d : Design) → IsDesignFile bytes d → ⊥

-- What is wrong with bytes: their first lexical fault; without one, the first fault of their tokens; without one, a fault that
-- stands in their tree.
abbrev pub IsWrong : List ℕ → EdifFault → Type 0
IsWrong bytes (Lex kind place) = lex_fault bytes ≡ Some (record { kind = kind; place = place })
IsWrong bytes (Tree kind place) = (lex_fault bytes ≡ None) × (tree_fault (tokens bytes) (length bytes) ≡ fault_at kind place)
IsWrong bytes (Meaning fault) = (lex_fault bytes ≡ None) × ((t : Placed) × IsFile (tokens bytes) t × Stands t fault)

-- the bytes spell a tree that means the design
abbrev pub ReadsBack : List ℕ → Design → Type 0
ReadsBack bytes d = (t : Bare) × Spells bytes t × MeansFile t d
