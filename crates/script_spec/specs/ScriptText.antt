-- Which text is a script, and which line is its first bad one.
use Rattle.std.specs.Prelude.{◌≡◌, ℕ, ◌+◌, ◌≤◌, ◌<◌, ◌⊎◌, ◌==◌, ◌||◌, not, Bool, true, false, if◌then◌else◌, List, [], ◌∷◌, ◌++◌, length, drop, filter, map, Option, None, Some, codes, AllPairs}
use Rattle.std.specs.List.{All, list_all, before_first, slice_split}
use Rattle.edif_spelling_spec.specs.Bytes.{is_quote}
use Rattle.edif_spelling_spec.specs.Names.{is_empty}
use Rattle.script_spec.specs.declared.script.ScriptLine.{ScriptLine}
use Rattle.script_spec.specs.declared.script.Step.{Step}
use Rattle.script_spec.specs.declared.script.Step.TheVariants.{Begin, Run, Commit, Abandon, Pin, PinAt, Walk, Release, Collect}
use Rattle.script_spec.specs.Lines.{IsPlainOp, IsSayable, said, number, step_pieces}
use Rattle.script_spec.specs.Pieces.{SpellPieces}
use Rattle.script_spec.specs.declared.limits.TheConstants.{MOST_SCRIPT_BYTES}

-- ---- lines of a text

abbrev pub is_line_feed : ℕ → Bool
is_line_feed b = b == 10

-- without a carriage return at its end
abbrev pub without_return : List ℕ → List ℕ
without_return [] = []
without_return (b ∷ []) = if b == 13 then [] else b ∷ []
without_return (b ∷ c ∷ bytes) = b ∷ without_return (c ∷ bytes)

-- The parts between line feeds as lines. Behind the last line feed there is a line only where there are bytes; at the end of each
-- other one a carriage return is dropped.
abbrev pub lines_of_parts : List (List ℕ) → List (List ℕ)
lines_of_parts [] = []
lines_of_parts (part ∷ []) = if is_empty part then [] else part ∷ []
lines_of_parts (part ∷ next ∷ parts) = without_return part ∷ lines_of_parts (next ∷ parts)

abbrev pub lines_of : List ℕ → List (List ℕ)
lines_of text = lines_of_parts (slice_split is_line_feed text)

-- ---- words of a line

-- a space or a tab
abbrev pub is_blank : ℕ → Bool
is_blank b = (b == 32) || (b == 9)

-- without the blanks at the end
abbrev pub trimmed : List ℕ → List ℕ
trimmed [] = []
trimmed (b ∷ bytes) = if list_all is_blank (b ∷ bytes) then [] else b ∷ trimmed bytes

-- the last of the parts goes on with these bytes
abbrev pub extended : List (List ℕ) → List ℕ → List (List ℕ)
extended [] more = more ∷ []
extended (part ∷ []) more = (part ++ more) ∷ []
extended (part ∷ next ∷ parts) more = part ∷ extended (next ∷ parts) more

-- from the first quote on, to the last byte that is no blank
abbrev pub from_quote : List ℕ → List ℕ
from_quote line = trimmed (drop (length (before_first is_quote line)) line)

-- The words: the parts between blanks that are not empty. From the first quote on a line is not cut, so a string is one word, and
-- the last.
abbrev pub words : List ℕ → List (List ℕ)
words line = filter (λ word. not (is_empty word)) (extended (slice_split is_blank (before_first is_quote line)) (from_quote line))

-- no words, or a first one that begins with `#`
abbrev pub is_mark : List ℕ → Bool
is_mark [] = false
is_mark (b ∷ bytes) = b == 35

abbrev pub is_comment : List (List ℕ) → Bool
is_comment [] = true
is_comment (word ∷ others) = is_mark word

-- ---- what a line says

-- the words say the step: they spell its pieces, and besides `begin retry 0` is the same as `begin`
abbrev pub SayStep : List (List ℕ) → Step → Type 0
SayStep said_words (Begin retries) = SpellPieces said_words (step_pieces (Begin retries))
    ⊎ SpellPieces said_words (said (codes "begin") ∷ said (codes "retry") ∷ number 16 retries ∷ [])
SayStep said_words (Run op) = SpellPieces said_words (step_pieces (Run op)) × IsPlainOp op
SayStep said_words step = SpellPieces said_words (step_pieces step)

abbrev pub Says : List ℕ → Step → Type 0
Says line step = SayStep (words line) step

-- ---- which step may stand where

-- what is held by the text alone: nothing; a transaction; or a pin, which counts as held whatever its answer will be
pub data Place : Type 0 where
  Free : Place
  Block : Place
  Holding : Place

-- the place behind a step; none where the step may not stand in its place
abbrev pub behind : Place → Step → Option Place
behind Free (Begin retries) = Some Block
behind Free Pin = Some Holding
behind Free (PinAt version) = Some Holding
behind Free Collect = Some Free
behind Block (Run op) = Some Block
behind Block Commit = Some Free
behind Block Abandon = Some Free
behind Holding (Walk limit) = Some Holding
behind Holding Release = Some Free
behind Holding Collect = Some Holding
behind place step = None

-- each of the steps may stand in its place, from this place on
abbrev pub ArePlaced : Place → List Step → Type 0
ArePlaced place [] = Unit {0}
ArePlaced place (step ∷ steps) = (next : Place) × (behind place step ≡ Some next) × ArePlaced next steps

-- ---- scripts

-- the lines, the first of which has this number, say these steps and besides are blank or comments
abbrev pub SayLines : ℕ → List (List ℕ) → List ScriptLine → Type 0
SayLines at [] script = script ≡ []
SayLines at (line ∷ lines) script =
    ((is_comment (words line) ≡ true) × SayLines (at + 1) lines script)
    ⊎ ((step : Step) × (others : List ScriptLine) × (is_comment (words line) ≡ false) × Says line step
    × (script ≡ record { number = at; step = step } ∷ others) × SayLines (at + 1) lines others)

abbrev pub steps_of : List ScriptLine → List Step
steps_of lines = map (λ line. line.step) lines

-- lines that say these steps, each of which may stand in its place
pub record AreScript (lines : List (List ℕ)) (script : List ScriptLine) : Type 0 where
  pub said : SayLines 1 lines script
  pub placed : ArePlaced Free (steps_of script)

-- a script as a value: its lines that say a step, and the number of the text's last line
pub record Parts : Type 0 where
  pub lines : List ScriptLine
  pub last : ℕ

-- the text is this script
pub record IsScriptText (text : List ℕ) (script : Parts) : Type 0 where
  pub lines : AreScript (lines_of text) script.lines
  pub last : script.last ≡ length (lines_of text)

-- the lines are a script
abbrev pub AreSome : List (List ℕ) → Type 0
AreSome lines = (script : List ScriptLine) × AreScript lines script

-- the first bad line is that of this number: the lines before it are a script, and with it they are none
pub record IsFirstBad (text : List ℕ) (at : ℕ) : Type 0 where
  pub front : List (List ℕ)
  pub line : List ℕ
  pub rest : List (List ℕ)
  pub parts : lines_of text ≡ front ++ line ∷ rest
  pub place : at ≡ length front + 1
  pub good : AreSome front
  pub bad : ¬ AreSome (front ++ line ∷ [])

-- what holds of each script as a value
pub record IsScript (script : Parts) : Type 0 where
  pub rising : AllPairs (λ line later. line.number < later.number) script.lines
  pub within : All (λ line. (1 ≤ line.number) × (line.number ≤ script.last)) script.lines
  pub short : script.last ≤ MOST_SCRIPT_BYTES
  pub sayable : All (λ line. IsSayable line.step) script.lines
  pub placed : ArePlaced Free (steps_of script.lines)
