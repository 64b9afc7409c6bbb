use Rattle.std.proofs.Common.{ap, ◌∙◌}
use Rattle.script_ops.proofs.PieceLemmas.{port_read}
use Rattle.script_words.specs.Reading.{lent}
use Rattle.script_ops.proofs.pieces.port.Goals as goal

pub returns : goal.returns
returns c = port_read c.args.word.now (lent c.as_slice.result.now) (ap lent c.as_slice.ensures.value ∙ c.in_ok-parts.ensures) c.port_of.result c.port_of.ensures
