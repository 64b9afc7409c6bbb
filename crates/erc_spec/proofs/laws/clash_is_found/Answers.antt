use Rattle.std.proofs.Common.{◌∙◌, refl, ap}
use Rattle.std.specs.Fmt.{digits}
use Rattle.flat_spec.specs.Occurrences.{occurrences}
use Rattle.flat_spec.specs.Representatives.{representative}
use Rattle.flat_spec.specs.Trees.{tree}
use Rattle.erc_spec.specs.ExampleClash.{clash}
use Rattle.erc_spec.specs.Lines.{found_text}
use Rattle.erc_spec.specs.ExampleClash.{ClashIsFound, ClashIsTold}
use Rattle.erc_spec.proofs.laws.clash_is_found.Goals as goal

found : ClashIsFound
unfolding representative occurrences tree
found = refl

told : ClashIsTold
unfolding digits
told = ap (found_text clash) found ∙ refl

pub returns : goal.returns
returns c = record { found = found; told = told }
