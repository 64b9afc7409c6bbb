-- Which steps walk, as a test.
use Rattle.std.specs.Prelude.{Bool, true, false}
use Rattle.script_spec.specs.declared.script.Step.{Step}
use Rattle.script_spec.specs.declared.script.Step.TheVariants.{Walk}

abbrev pub is_walk : Step → Bool
is_walk (Walk limit) = true
is_walk step = false
