use Rattle.std.proofs.Common.{sym, ◌∙◌}
use Rattle.netlist_bus_spec.proofs.Tests.{property_tells}
use Rattle.db_work.proofs.outside.is_same_property.Goals as goal

pub returns : goal.returns
returns c = λ told. (property_tells c.args.a.now c.args.b.now).0 (sym c.test_property.ensures ∙ told)
