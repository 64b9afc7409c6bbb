-- How far a script has come, between two of its lines.
use Rattle.std.specs.Prelude.{◌≡◌, ℕ, List, ◌++◌}
use Rattle.netlist_schema.specs.Design.{Design}
use Rattle.db_spec.specs.History.{Legal, version_at}
use Rattle.db_spec.specs.declared.event.Event.{Event}
use Rattle.script_spec.specs.Report.{transcript}
use Rattle.script_spec.specs.ScriptText.{ArePlaced}
use Rattle.script_spec.specs.Session.{Ending, Exchange, Held, Nothing, Runs, Word, exchanges}
use Rattle.script_spec.specs.declared.script.Step.{Step}
use Rattle.script_run_spec.specs.Calls.{HoldsJust}
use Rattle.script_run_spec.specs.Lines.{place_of}

-- However the history goes on, a session of the lines that are left, from what is held, is one of the whole script behind the
-- caller's calls so far and the words said so far.
abbrev pub Resumes : Design → List Event → ℕ → List Step → List Word → Held → List Step → Type 0
Resumes d seen caller steps said held left = (more : List Event) (rest : List Exchange) (words : List Word) (ending : Ending)
    → Runs (version_at d (seen ++ more)) held left rest words ending
    → Runs (version_at d (seen ++ more)) Nothing steps (exchanges caller seen ++ rest) (said ++ words) ending

-- A script that is run as this caller has come so far: this history was seen, this text written, this is held, and these lines are
-- left.
pub record HasCome (d : Design) (caller : ℕ) (steps : List Step) (seen : List Event) (text : List ℕ) (held : Held) (left : List Step) : Type 0 where
  pub legal : Legal d seen
  pub said : List Word
  pub resumes : Resumes d seen caller steps said held left
  pub written : (more : List Event) → Legal d (seen ++ more) → text ≡ transcript d (seen ++ more) said
  pub holds : HoldsJust d seen caller held
  pub placed : ArePlaced (place_of held) left
