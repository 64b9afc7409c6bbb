use Rattle.std.proofs.Common.{◌≡◌, ◌++◌, take}
use Rattle.netlist_pages.proofs.page.add_copies.Given as goal

-- the items so far are added
abbrev pub invariant-loop-item : goal.invariant-loop-item
invariant-loop-item g l = l.made.items ≡ l.fn.made.items ++ take l.item-index l.items
