use Rattle.std.proofs.Common.{length}
use Rattle.ver_table.specs.declared.directory.TheConstants.{GROUP}
use Rattle.ver_table.specs.Entries.{pairs_of}
use Rattle.ver_table.specs.Pages.{sheets_of}
use Rattle.ver_table.proofs.Revisions.{Pending}
use Rattle.ver_table.proofs.directory.changed_groups.Given as goal

abbrev pub invariant-loop-run : goal.invariant-loop-run
invariant-loop-run g l = Pending GROUP (sheets_of l.fn.groups) (pairs_of l.fn.changes) (pairs_of l.left) (sheets_of l.changed.items)

abbrev pub decreases-loop-run : goal.decreases-loop-run
decreases-loop-run g l = length l.left
