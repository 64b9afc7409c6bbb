use Rattle.std.proofs.Common.{take}
use Rattle.conflict_check.proofs.Finding.{FirstAmong}
use Rattle.conflict_check.proofs.stamps.Stamps.first_later.Given as goal

abbrev pub invariant-loop-object : goal.invariant-loop-object
invariant-loop-object l = FirstAmong l.self (take l.object-index l.object-items) l.version l.found
