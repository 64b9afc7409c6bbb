use Rattle.std.proofs.Common.{◌∙◌, refl, ap}
use Rattle.std.specs.Fmt.{digits}
use Rattle.flat_spec.specs.Occurrences.{occurrences}
use Rattle.flat_spec.specs.Representatives.{representative}
use Rattle.flat_spec.specs.Trees.{tree}
use Rattle.flat_spec.specs.ExampleFeedthrough.{board}
use Rattle.erc_spec.specs.Lines.{found_text}
use Rattle.erc_spec.specs.Examples.{BoardIsFound, BoardIsTold}
use Rattle.erc_spec.proofs.laws.undriven_board_is_found.Goals as goal

found : BoardIsFound
unfolding representative occurrences tree
found = refl

told : BoardIsTold
unfolding digits
told = ap (found_text board) found ∙ refl

pub returns : goal.returns
returns c = record { found = found; told = told }
