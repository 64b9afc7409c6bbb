use Rattle.std.proofs.Common.{take}
use Rattle.netlist_schema.specs.Names.{AreDistinct}
use Rattle.netdb_outside.specs.MemFiles.{names}
use Rattle.netdb_outside.proofs.mem_files.names_differ.Given as goal

abbrev pub invariant-loop-i : goal.invariant-loop-i
invariant-loop-i l = AreDistinct (names (take l.i l.files))
