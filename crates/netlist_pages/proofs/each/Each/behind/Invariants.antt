use Rattle.std.proofs.Common.{◌≡◌, drop}
use Rattle.netlist_pages.proofs.each.Each.behind.Given as goal

-- so many are passed over
abbrev pub invariant-loop : goal.invariant-loop
invariant-loop g l = l.items ≡ drop l.counter l.self
