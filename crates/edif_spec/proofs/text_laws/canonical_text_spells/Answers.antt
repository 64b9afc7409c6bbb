use Rattle.edif_spelling_spec.proofs.SpelledTokens.{same_tree}
use Rattle.edif_spec.specs.Arranged.{arranged, canonical_text}
use Rattle.edif_spec.specs.Canonical.{tree_of}
use Rattle.edif_spec.proofs.Arrange.{arranged_valid}
use Rattle.edif_spec.proofs.Fine.{text_spelled}
use Rattle.edif_spec.proofs.text_laws.canonical_text_spells.Goals as goal

pub returns-clause-spells : goal.returns-clause-spells
returns-clause-spells c d valid = text_spelled (arranged d) (arranged_valid d valid)

pub returns-clause-only : goal.returns-clause-only
returns-clause-only c d t valid spelled = same_tree (canonical_text d) t (tree_of (arranged d)) spelled (text_spelled (arranged d) (arranged_valid d valid))
