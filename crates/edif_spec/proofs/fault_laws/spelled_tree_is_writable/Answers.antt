use Rattle.edif_spec.proofs.SpelledTrees.{spelled_written}
use Rattle.edif_spec.proofs.fault_laws.spelled_tree_is_writable.Goals as goal

pub returns : goal.returns
returns c bytes t b spells = spelled_written bytes t b spells
