use Rattle.used_spec.proofs.Entries.{used_entry}
use Rattle.used_spec.proofs.laws.index_has_each_cell.Goals as goal

pub returns : goal.returns
returns c = used_entry
