-- How the lines of a script make up its session.
use Rattle.std.specs.Prelude.{◌≡◌, ℕ, List, [], ◌∷◌, true, false}
use Rattle.netlist_schema.specs.Design.{Design}
use Rattle.db_spec.specs.History.{Legal}
use Rattle.db_spec.specs.declared.event.Event.{Event}
use Rattle.script_spec.specs.Headline.{Ran}
use Rattle.script_spec.specs.ScriptText.{ArePlaced, Free}
use Rattle.script_spec.specs.Session.{Held, Nothing, exchanges, last_release}
use Rattle.script_spec.specs.declared.script.Step.{Step}
use Rattle.script_run_spec.specs.Along.{HasCome}
use Rattle.script_run_spec.specs.Calls.{Makes}
use Rattle.script_run_spec.specs.Lines.{GoesOn, IsBroken, IsFilled}
use Rattle.script_run_spec.specs.Whole.{IsBrokenOff}

-- at the beginning: the caller has made no call
abbrev pub ComesToBegin : Type 0
ComesToBegin = (d : Design) (caller : ℕ) (steps : List Step) (seen : List Event) → Legal d seen → exchanges caller seen ≡ [] → ArePlaced Free steps
    → HasCome d caller steps seen [] Nothing steps

-- one line further
abbrev pub ComesFurther : Type 0
ComesFurther = (d : Design) (caller : ℕ) (steps : List Step) (old new : List Event) (before text : List ℕ) (held next : Held) (step : Step) (left : List Step)
    → HasCome d caller steps old before held (step ∷ left) → GoesOn d caller old new before text held step next → HasCome d caller steps new text next left

-- at the end: what is held is released
abbrev pub ComesToEnd : Type 0
ComesToEnd = (d : Design) (caller : ℕ) (steps : List Step) (old new : List Event) (text : List ℕ) (held : Held)
    → HasCome d caller steps old text held [] → Makes d caller old new (last_release held) → Ran d new caller steps text false

-- where the log was full for a line
abbrev pub ComesToFull : Type 0
ComesToFull = (d : Design) (caller : ℕ) (steps : List Step) (old new last : List Event) (before text : List ℕ) (held next : Held) (step : Step) (left : List Step)
    → HasCome d caller steps old before held (step ∷ left) → IsFilled d caller old new before text held step next → Makes d caller new last (last_release next)
    → Ran d last caller steps text true

-- where a line was broken off
abbrev pub ComesToBreak : Type 0
ComesToBreak = (d : Design) (caller : ℕ) (steps : List Step) (old new last : List Event) (before : List ℕ) (held next : Held) (step : Step) (left : List Step)
    → HasCome d caller steps old before held (step ∷ left) → IsBroken d caller old new held step next → Makes d caller new last (last_release next)
    → IsBrokenOff d last caller steps
