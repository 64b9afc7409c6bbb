-- Whether a script walks.
use Rattle.std.proofs.Common.{◌≡◌, Bool, true, ◌||◌, List, [], ◌∷◌, inl, inr, refl, ap, sym, ◌∙◌}
use Rattle.std.specs.Prelude.{◌↔◌, IsTrue}
use Rattle.std.specs.List.{list_any}
use Rattle.std.proofs.lemmas.Bool.{or_cases, or_right}
use Rattle.script_spec.specs.Headline.{HasWalk, SomeWalks}
use Rattle.script_spec.specs.ScriptText.{Parts, steps_of}
use Rattle.script_spec.specs.declared.script.ScriptLine.{ScriptLine}
use Rattle.script_spec.specs.declared.script.Step.{Step}
use Rattle.script_spec.specs.declared.script.Step.TheVariants.{Walk}
use Rattle.script_run_spec.specs.Scripts.{all_steps}
use Rattle.script_walks.specs.Walking.{is_walk}

-- a line walks, as a test
abbrev walks_line : ScriptLine → Bool
walks_line line = is_walk line.step

-- a step passes the test, or one behind it
step_walks : (step : Step) (b : Bool) (rest : List Step) → (b ≡ true → HasWalk rest) → (is_walk step || b) ≡ true → HasWalk (step ∷ rest)
step_walks (Walk limit) b rest f h = inl tt
step_walks step b rest f h = inr (f h)

walks_step : (step : Step) (b : Bool) (rest : List Step) → (HasWalk rest → b ≡ true) → HasWalk (step ∷ rest) → (is_walk step || b) ≡ true
walks_step (Walk limit) b rest f h = refl
walks_step step b rest f (inl h) = absurd h
walks_step step b rest f (inr h) = f h

line_walks : (lines : List ScriptLine) → list_any walks_line lines ≡ true → HasWalk (steps_of lines)
line_walks [] h = absurd (cc h)
line_walks (line ∷ lines) h = step_walks line.step (list_any walks_line lines) (steps_of lines) (λ k. line_walks lines k) h

walks_a_line : (lines : List ScriptLine) → HasWalk (steps_of lines) → list_any walks_line lines ≡ true
walks_a_line [] h = absurd h
walks_a_line (line ∷ lines) h = walks_step line.step (list_any walks_line lines) (steps_of lines) (λ k. walks_a_line lines k) h

-- a script walks, as a test
abbrev walks_script : Parts → Bool
walks_script script = list_any walks_line script.lines

script_walks : (scripts : List Parts) → list_any walks_script scripts ≡ true → SomeWalks (all_steps scripts)
script_walks [] h = absurd (cc h)
script_walks (script ∷ scripts) h = elim (or_cases (walks_script script) (list_any walks_script scripts) h) [
  | inl is ↦ inl (line_walks script.lines is)
  | inr is ↦ inr (script_walks scripts is)
]

walks_a_script : (scripts : List Parts) → SomeWalks (all_steps scripts) → list_any walks_script scripts ≡ true
walks_a_script [] h = absurd h
walks_a_script (script ∷ scripts) (inl h) = ap (λ b. b || list_any walks_script scripts) (walks_a_line script.lines h)
walks_a_script (script ∷ scripts) (inr h) = or_right (walks_script script) (list_any walks_script scripts) (walks_a_script scripts h)

-- some script passes the test, exactly where some walks
pub some_walks_is : (scripts : List Parts) (b : Bool) → b ≡ list_any walks_script scripts → IsTrue b ↔ SomeWalks (all_steps scripts)
some_walks_is scripts b is = (λ h. script_walks scripts (sym is ∙ h), λ h. is ∙ walks_a_script scripts h)
