use Rattle.ask_spec.proofs.DriverLemmas.{each_drives_or_loads, undriven_has_no_drivers}
use Rattle.ask_spec.proofs.laws.drivers_are_counted.Goals as goal

pub returns-clause-undriven : goal.returns-clause-undriven
returns-clause-undriven c = undriven_has_no_drivers

pub returns-clause-each : goal.returns-clause-each
returns-clause-each c = each_drives_or_loads
