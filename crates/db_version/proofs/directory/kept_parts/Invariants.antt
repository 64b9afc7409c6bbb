use Rattle.std.proofs.Common.{◌≤◌, length}
use Rattle.db_version.proofs.directory.kept_parts.Given as goal

abbrev pub invariant-loop-kept : goal.invariant-loop-kept
invariant-loop-kept l = l.kept ≤ length l.parts

abbrev pub decreases-loop-kept : goal.decreases-loop-kept
decreases-loop-kept l = l.kept
