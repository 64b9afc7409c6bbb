-- Which operation a line of a transaction says.
use Rattle.std.specs.Prelude.{◌≡◌, ◌<◌, ◌≤◌, ℕ, List, [], ◌∷◌, ◌++◌, codes, length, Option, Some, None, Result, Ok, Err}
use Rattle.edit_spec.specs.declared.ops.Op.{Op}
use Rattle.script_spec.specs.ScriptText.{Parts, IsScriptText, steps_of}
use Rattle.script_spec.specs.declared.script.Step.{Step}
use Rattle.script_spec.specs.declared.script.Step.TheVariants.{Run}
use Rattle.netdb_desk.specs.declared.limits.TheConstants.{MOST_LINE_BYTES}
use Rattle.netdb_desk.specs.declared.line.LineError.{LineError}
use Rattle.netdb_desk.specs.declared.line.LineError.TheVariants.{BadLine, TooLong, NoMemory}

-- the text of a script that begins a transaction, with this line behind that
abbrev pub block_text : List ℕ → List ℕ
block_text line = codes "begin" ++ 10 ∷ [] ++ line ++ 10 ∷ []

-- in a transaction of a script the line says this operation, and nothing else
pub record IsLineOf (line : List ℕ) (op : Op) : Type 0 where
  pub script : Parts
  pub is : IsScriptText (block_text line) script
  pub steps : (first : Step) × (steps_of script.lines ≡ first ∷ Run op ∷ [])

-- of two steps the second is this operation; or there are not two, or the second is none
abbrev pub SaysSecond : List Step → Option Op → Type 0
SaysSecond steps (Some op) = (first : Step) × (steps ≡ first ∷ Run op ∷ [])
SaysSecond steps None = (first : Step) (op : Op) → ¬ (steps ≡ first ∷ Run op ∷ [])

-- the operation that the line says; it says none; or it is too long to be read
abbrev pub ReadsLine : List ℕ → Result Op LineError → Type 0
ReadsLine line (Ok op) = (length line ≤ MOST_LINE_BYTES) × IsLineOf line op
ReadsLine line (Err BadLine) = (length line ≤ MOST_LINE_BYTES) × ((op : Op) → ¬ IsLineOf line op)
ReadsLine line (Err TooLong) = MOST_LINE_BYTES < length line
ReadsLine line (Err NoMemory) = length line ≤ MOST_LINE_BYTES
