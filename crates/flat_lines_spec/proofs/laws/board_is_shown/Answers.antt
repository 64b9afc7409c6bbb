use Rattle.std.proofs.Common.{◌∙◌, None, refl, ap}
use Rattle.std.specs.Fmt.{digits}
use Rattle.flat_spec.specs.ExampleFeedthrough.{board, BoardIsFlattened}
use Rattle.flat_spec.specs.Occurrences.{occurrences}
use Rattle.flat_spec.specs.Representatives.{representative}
use Rattle.flat_spec.specs.Trees.{tree}
use Rattle.flat_lines_spec.proofs.Texts.{text_of}
use Rattle.flat_lines_spec.proofs.laws.board_is_shown.Goals as goal

flat : BoardIsFlattened
unfolding representative occurrences tree
flat = refl

pub returns : goal.returns
unfolding digits
returns c = ap (text_of board None) flat ∙ refl
