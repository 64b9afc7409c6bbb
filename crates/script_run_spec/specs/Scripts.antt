-- The steps of scripts that are run beside each other.
use Rattle.std.specs.Prelude.{List, map}
use Rattle.script_spec.specs.ScriptText.{Parts, steps_of}
use Rattle.script_spec.specs.declared.script.Step.{Step}

-- the steps of each script
abbrev pub all_steps : List Parts → List (List Step)
all_steps scripts = map (λ script. steps_of script.lines) scripts
