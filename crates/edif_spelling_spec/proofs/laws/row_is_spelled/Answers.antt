use Rattle.edif_spelling_spec.proofs.SpelledTokens.{spelled_from_row, row_from_spelled}
use Rattle.edif_spelling_spec.proofs.laws.row_is_spelled.Goals as goal

pub returns-clause-spelled : goal.returns-clause-spelled
returns-clause-spelled c place bytes ts row = spelled_from_row place bytes ts row

pub returns-clause-placed : goal.returns-clause-placed
returns-clause-placed c place bytes kinds h = row_from_spelled place bytes kinds h
