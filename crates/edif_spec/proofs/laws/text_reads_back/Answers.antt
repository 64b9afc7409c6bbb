use Rattle.edif_spec.specs.Arranged.{arranged, canonical_text}
use Rattle.edif_spec.specs.Canonical.{tree_of}
use Rattle.edif_spec.proofs.ReadBack.{one_text_meaning, text_spelled_back, text_meant_back}
use Rattle.edif_spec.proofs.laws.text_reads_back.Goals as goal

pub returns-clause-spells : goal.returns-clause-spells
returns-clause-spells c d valid = text_spelled_back d valid

pub returns-clause-means : goal.returns-clause-means
returns-clause-means c d valid = text_meant_back d valid

pub returns-clause-only : goal.returns-clause-only
returns-clause-only c d e t valid spells means = one_text_meaning (canonical_text d) (tree_of (arranged d)) t (arranged d) e (text_spelled_back d valid) (text_meant_back d valid) spells means
