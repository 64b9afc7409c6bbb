use Rattle.netlist_bus_spec.proofs.Told.{one_greatest, width_is_greatest}
use Rattle.netlist_bus_spec.proofs.laws.greatest_run.Goals as goal

pub returns-clause-is : goal.returns-clause-is
returns-clause-is c ports nets = width_is_greatest ports nets

pub returns-clause-one : goal.returns-clause-one
returns-clause-one c ports nets v w a b = one_greatest ports nets v w a b
