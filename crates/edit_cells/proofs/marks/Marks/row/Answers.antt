use Rattle.std.proofs.Common.{subst}
use Rattle.netlist_schema.specs.Names.{AreDistinct}
use Rattle.edit_cells.proofs.Marking.{placed_differ}
use Rattle.edit_cells.proofs.marks.Marks.row.Goals as goal

pub returns-clause-distinct : goal.returns-clause-distinct
returns-clause-distinct c = subst AreDistinct c.self.view_is (placed_differ c.self.inside.list c.self.inside.places c.self.invariant)
