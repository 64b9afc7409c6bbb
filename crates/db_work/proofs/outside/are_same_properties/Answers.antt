use Rattle.std.proofs.Common.{sym, ◌∙◌}
use Rattle.db_work.proofs.outside.are_same_properties.Goals as goal

pub returns : goal.returns
returns c = λ told. sym c.as_slice.ensures ∙ (c.are_equal.ensures told ∙ c.as_slice-2.ensures)
