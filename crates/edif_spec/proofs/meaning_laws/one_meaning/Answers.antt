use Rattle.edif_spec.proofs.OnceFile.{file_once}
use Rattle.edif_spec.proofs.meaning_laws.one_meaning.Goals as goal

pub returns : goal.returns
returns c t d e h k = file_once t d e h k
