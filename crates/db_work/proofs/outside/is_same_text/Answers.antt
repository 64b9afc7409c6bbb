use Rattle.std.proofs.Common.{sym, ◌∙◌}
use Rattle.netlist_bus_spec.proofs.Tests.{text_tells}
use Rattle.db_work.proofs.outside.is_same_text.Goals as goal

pub returns : goal.returns
returns c = λ told. (text_tells c.args.a.now c.args.b.now).0 (sym c.eq.ensures ∙ told)
