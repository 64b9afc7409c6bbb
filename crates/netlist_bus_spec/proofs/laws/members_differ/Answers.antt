use Rattle.netlist_bus_spec.proofs.Numbers.{member_ids_differ}
use Rattle.netlist_bus_spec.proofs.laws.members_differ.Goals as goal

pub returns : goal.returns
returns c name j k a b e = member_ids_differ name.id j k a b e
