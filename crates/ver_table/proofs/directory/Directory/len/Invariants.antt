use Rattle.std.proofs.Common.{◌≡◌, length, take}
use Rattle.ver_table.specs.Pages.{sheets_of, spread}
use Rattle.ver_table.proofs.directory.Directory.len.Given as goal

abbrev pub invariant-loop-group : goal.invariant-loop-group
invariant-loop-group g l = l.count ≡ length (spread (sheets_of (take l.group-index l.group-items)))
