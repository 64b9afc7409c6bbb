use Rattle.netdb_outside.proofs.BufferedLemmas.{writes_same}
use Rattle.edif_writer.proofs.Lines.{line_front}
use Rattle.edif_writer.proofs.spelled.put_line.Goals as goal

pub returns-then-level-lt17 : goal.returns-then-level-lt17
returns-then-level-lt17 g c = writes_same (line_front c.args.level c.if-level-lt17.true) c.put.ensures
