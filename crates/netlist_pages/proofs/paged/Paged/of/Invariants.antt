use Rattle.std.proofs.Common.{◌≡◌, ◌++◌, ◌≤◌, length}
use Rattle.netlist_pages.proofs.paged.Paged.of.Given as goal

-- the items so far are in the list and on the page behind it
abbrev pub invariant-loop-item : goal.invariant-loop-item
invariant-loop-item g l = record {
  done : l.made ++ l.last.items ≡ l.yielded;
  rest : l.fn.items.items ≡ l.yielded ++ l.item-iterator.rest.items;
  few : length l.last.items ≤ 512;
}
