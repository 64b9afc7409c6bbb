use Rattle.std.proofs.Common.{None, Some, ap}
use Rattle.netlist_schema.specs.Design.{Design}
use Rattle.db_version.proofs.Places.{lib_found}
use Rattle.db_version.proofs.version.Version.lib_named.Goals as goal

pub returns-in-Some-clause-value : goal.returns-in-Some-clause-value
returns-in-Some-clause-value c = lib_found c.args.self.now c.args.name.now c.self.inside.shelves.items c.as_slice.result.now (Some c.in-Some.place) (ap (λ (d : Design). d.libs) c.self.view_is) c.as_slice.ensures.value c.in-Some.ensures

pub returns-in-None-clause-value : goal.returns-in-None-clause-value
returns-in-None-clause-value c = lib_found c.args.self.now c.args.name.now c.self.inside.shelves.items c.as_slice.result.now None (ap (λ (d : Design). d.libs) c.self.view_is) c.as_slice.ensures.value c.in-None.ensures
