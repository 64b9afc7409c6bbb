use Rattle.std.proofs.Common.{ap}
use Rattle.edif_spelling_spec.proofs.RowLemmas.{row_is_read, read_is_row}
use Rattle.edif_spelling_spec.proofs.laws.one_reading.Goals as goal

pub returns-clause-row : goal.returns-clause-row
returns-clause-row c bytes none = read_is_row bytes none

pub returns-clause-only : goal.returns-clause-only
returns-clause-only c bytes ts row = let e = row_is_read 0 bytes ts row in (ap (λ l. l.fault) e, ap (λ l. l.tokens) e)
