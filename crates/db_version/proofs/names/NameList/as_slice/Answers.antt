use Rattle.std.proofs.Common.{subst}
use Rattle.netlist_schema.specs.Names.{AreDistinct}
use Rattle.db_version.proofs.Lowering.{distinct_from}
use Rattle.db_version.proofs.names.NameList.as_slice.Goals as goal

pub returns-clause-distinct : goal.returns-clause-distinct
returns-clause-distinct c = subst AreDistinct c.self.view_is (distinct_from c.self.inside.names.keys c.as_slice.ensures.unique)
