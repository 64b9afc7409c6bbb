use Rattle.std.proofs.Common.{◌∙◌, refl, ap}
use Rattle.std.specs.Fmt.{digits}
use Rattle.flat_spec.specs.Occurrences.{occurrences}
use Rattle.flat_spec.specs.Representatives.{representative}
use Rattle.flat_spec.specs.Trees.{tree}
use Rattle.erc_spec.specs.ExampleLevels.{levels}
use Rattle.erc_spec.specs.Lines.{found_text}
use Rattle.erc_spec.specs.ExampleLevels.{LevelsAreFound, LevelsAreTold}
use Rattle.erc_spec.proofs.laws.levels_are_found.Goals as goal

found : LevelsAreFound
unfolding representative occurrences tree
found = refl

told : LevelsAreTold
unfolding digits
told = ap (found_text levels) found ∙ refl

pub returns : goal.returns
returns c = record { found = found; told = told }
