use Rattle.edif_tree.specs.Handles.{all}
use Rattle.edif_build.proofs.FileLemmas.{FoundSo}
use Rattle.edif_build.proofs.file.find_design.Given as goal

abbrev pub invariant-loop-i : goal.invariant-loop-i
invariant-loop-i l = FoundSo (all l.inner) l.i l.found
