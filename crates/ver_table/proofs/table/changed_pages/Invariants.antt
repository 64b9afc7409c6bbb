use Rattle.std.proofs.Common.{length}
use Rattle.ver_table.specs.Entries.{pairs_of}
use Rattle.ver_table.specs.Pages.{pages_of, sheets_of}
use Rattle.ver_table.proofs.Revisions.{Pending}
use Rattle.ver_table.proofs.table.changed_pages.Given as goal

abbrev pub invariant-loop-run : goal.invariant-loop-run
invariant-loop-run g l = Pending l.size (pages_of l.fn.pages) (pairs_of l.fn.changes) (pairs_of l.left) (sheets_of l.changed.items)

abbrev pub decreases-loop-run : goal.decreases-loop-run
decreases-loop-run g l = length l.left
