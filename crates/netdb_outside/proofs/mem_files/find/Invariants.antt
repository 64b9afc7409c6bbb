use Rattle.std.proofs.Common.{◌≡◌, drop}
use Rattle.netdb_outside.specs.MemFiles.{named}
use Rattle.netdb_outside.specs.Outside.{file_named}
use Rattle.netdb_outside.proofs.mem_files.find.Given as goal

abbrev pub invariant-loop-i : goal.invariant-loop-i
invariant-loop-i l = file_named (named (drop l.i l.files)) l.name ≡ file_named (named l.files) l.name
