use Rattle.netlist_bus_spec.proofs.Rows.{run_passes, run_there}
use Rattle.netlist_bus_spec.proofs.laws.runs_are_told.Goals as goal

pub returns : goal.returns
returns c ports nets = (run_there ports nets, run_passes ports nets)
