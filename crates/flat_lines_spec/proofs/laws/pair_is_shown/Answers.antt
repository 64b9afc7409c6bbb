use Rattle.std.proofs.Common.{◌∙◌, None, refl, ap}
use Rattle.flat_spec.specs.ExampleNotes.{pair, PairIsFlattened}
use Rattle.flat_spec.specs.Occurrences.{occurrences}
use Rattle.flat_spec.specs.Representatives.{representative}
use Rattle.flat_spec.specs.Trees.{tree}
use Rattle.flat_lines_spec.proofs.Texts.{text_of}
use Rattle.flat_lines_spec.proofs.laws.pair_is_shown.Goals as goal

flat : PairIsFlattened
unfolding representative occurrences tree
flat = refl

pub returns : goal.returns
returns c = ap (text_of pair None) flat ∙ refl
