-- The verb of a step, and what stands behind the first word of its line.
use Rattle.std.specs.Prelude.{◌≡◌, ◌⊎◌, ℕ, List, [], ◌∷◌, Option, None, Some, Result, codes, MatchResult}
use Rattle.script_spec.specs.declared.script.Step.{Step}
use Rattle.script_spec.specs.declared.script.Step.TheVariants as step
use Rattle.script_spec.specs.Lines.{IsPlainOp, said, number}
use Rattle.script_spec.specs.Pieces.{Piece, Alone, Number, SpellPieces}
use Rattle.script_words.specs.declared.unread.Unread.{Unread}
use Rattle.script_words.specs.declared.unread.Unread.TheVariants.{Bad}
use Rattle.script_ops.specs.Verbs.{op_rest, OpHasBytes, verb_of_op}
use Rattle.script_ops.specs.declared.verbs.Verb.{Verb}
use Rattle.script_ops.specs.declared.verbs.Verb.TheVariants as verb
use Rattle.script_ops.specs.declared.verbs.Bare.TheVariants as bare

abbrev pub verb_of : Step → Verb
verb_of (step.Begin retries) = verb.Begin
verb_of (step.Run o) = verb.Operation (verb_of_op o)
verb_of step.Commit = verb.Alone bare.Commit
verb_of step.Abandon = verb.Alone bare.Abandon
verb_of step.Pin = verb.Alone bare.Pin
verb_of (step.PinAt version) = verb.PinAt
verb_of (step.Walk limit) = verb.Walk
verb_of step.Release = verb.Alone bare.Release
verb_of step.Collect = verb.Alone bare.Collect

-- the retries of a `begin`, where there are words for them
abbrev pub SaysRetries : List (List ℕ) → ℕ → Type 0
SaysRetries words retries = ((words ≡ []) × (retries ≡ 0)) ⊎ SpellPieces words (said (codes "retry") ∷ number 16 retries ∷ [])

-- the limit of a walk, where there is one
abbrev pub limit_pieces : Option ℕ → List Piece
limit_pieces None = []
limit_pieces (Some limit) = said (codes "limit") ∷ Alone (Number 1 4294967295 limit) ∷ []

-- the words say what stands behind the first word of the step's line
abbrev pub SayRest : List (List ℕ) → Step → Type 0
SayRest words (step.Begin retries) = SaysRetries words retries
SayRest words (step.Run o) = SpellPieces words (op_rest o) × IsPlainOp o
SayRest words (step.PinAt version) = SpellPieces words (number 18446744073709551615 version ∷ [])
SayRest words (step.Walk limit) = SpellPieces words (limit_pieces limit)
SayRest words s = words ≡ []

abbrev pub StepHasBytes : Step → Type 0
StepHasBytes (step.Run o) = OpHasBytes o
StepHasBytes s = Unit {0}

-- a step with this verb was read from the words behind it, or they say none
pub record IsStepOf (v : Verb) (words : List (List ℕ)) (s : Step) : Type 0 where
  pub verb : verb_of s ≡ v
  pub said : SayRest words s
  pub bytes : StepHasBytes s

abbrev pub ReadsStep : Verb → List (List ℕ) → Result Step Unread → Type 0
ReadsStep v words result = MatchResult result (IsStepOf v words) (λ e. e ≡ Bad → (s : Step) → verb_of s ≡ v → ¬ SayRest words s)
