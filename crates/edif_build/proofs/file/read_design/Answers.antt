use Rattle.edif_build.proofs.FileLaws.{meant_or_no_memory, no_design}
use Rattle.edif_build.proofs.file.read_design.Goals as goal

pub returns-clause-means : goal.returns-clause-means
returns-clause-means c = λ t d a m. meant_or_no_memory t d c.read_whole.result (c.read_whole.ensures t a) m

pub returns-clause-faulty : goal.returns-clause-faulty
returns-clause-faulty c = λ t f d a s e. no_design t f d c.read_whole.result (c.read_whole.ensures t a) s e
