use Rattle.netlist_bus_spec.proofs.Rows.{row_there, run_passes}
use Rattle.netlist_bus_spec.proofs.laws.runs_are_rows.Goals as goal

pub returns : goal.returns
returns c ports nets r = row_there ports nets (run_passes ports nets r)
