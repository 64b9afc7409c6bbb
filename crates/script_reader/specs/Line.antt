-- Lines read one after another.
use Rattle.std.specs.Prelude.{◌≡◌, ◌⊎◌, ◌+◌, ℕ, List, [], ◌∷◌, ◌++◌, length, true, false, Option, Some, Result, MatchOption, MatchResult}
use Rattle.std.specs.List.{AllByRecursion}
use Rattle.script_spec.specs.Lines.{IsSayable}
use Rattle.script_spec.specs.ScriptText as text
use Rattle.script_spec.specs.ScriptText.{AreSome, Says, SayLines, behind, is_comment, steps_of, words}
use Rattle.script_spec.specs.declared.script.ScriptLine.{ScriptLine}
use Rattle.script_spec.specs.declared.script.Step.{Step}
use Rattle.script_reader.specs.declared.script.Place.{Place}
use Rattle.script_reader.specs.declared.script.Place.TheVariants.{Free, Block, Holding}
use Rattle.script_words.specs.declared.unread.Unread.{Unread}
use Rattle.script_words.specs.declared.unread.Unread.TheVariants.{Bad}

-- the line says a step
pub record SaysIt (line : List ℕ) (step : Step) : Type 0 where
  pub plain : is_comment (words line) ≡ false
  pub says : Says line step
  pub sayable : IsSayable step

-- the line is no comment, and says no step
pub record SaysNone (line : List ℕ) : Type 0 where
  pub plain : is_comment (words line) ≡ false
  pub none : (step : Step) → ¬ Says line step

-- a line was read: as a comment or the step that it says, or it is bad
abbrev pub ReadsLine : List ℕ → Result (Option Step) Unread → Type 0
ReadsLine line result = MatchResult result (λ found. MatchOption found (is_comment (words line) ≡ true) (SaysIt line)) (λ e. e ≡ Bad → SaysNone line)

-- a place as the definitions have it
abbrev pub place_of : Place → text.Place
place_of Free = text.Free
place_of Block = text.Block
place_of Holding = text.Holding

-- from a place, these steps may stand one after another, and lead to another place
abbrev pub Leads : text.Place → List Step → text.Place → Type 0
Leads place [] last = place ≡ last
Leads place (step ∷ steps) last = (next : text.Place) × (behind place step ≡ Some next) × Leads next steps last

-- These lines were read: they say this script, and this is the place behind it.
pub record AreRead (lines : List (List ℕ)) (found : List ScriptLine) (place : text.Place) : Type 0 where
  pub said : SayLines 1 lines found
  pub leads : Leads text.Free (steps_of found) place
  pub sayable : AllByRecursion (λ line. IsSayable line.step) found

-- one line more
abbrev pub Goes : (number : ℕ) (line : List ℕ) (found : List ScriptLine) (place : text.Place) (more : List ScriptLine) (next : text.Place) → Type 0
Goes number line found place more next =
    ((is_comment (words line) ≡ true) × (more ≡ found) × (next ≡ place))
    ⊎ ((step : Step) × SaysIt line step × (behind place step ≡ Some next) × (more ≡ found ++ record { number = number; step = step } ∷ []))

-- the line says no step that may stand there
pub record IsBadLine (line : List ℕ) (place : text.Place) : Type 0 where
  pub plain : is_comment (words line) ≡ false
  pub none : (step : Step) (next : text.Place) → Says line step → ¬ (behind place step ≡ Some next)

-- the first bad one of these lines is that of this number
pub record IsFirst (lines : List (List ℕ)) (at : ℕ) : Type 0 where
  pub front : List (List ℕ)
  pub line : List ℕ
  pub rest : List (List ℕ)
  pub parts : lines ≡ front ++ line ∷ rest
  pub place : at ≡ length front + 1
  pub good : AreSome front
  pub bad : ¬ AreSome (front ++ line ∷ [])
