use Rattle.std.proofs.Common.{◌≡◌, [], length}
use Rattle.netlist_pages.specs.Pages.{listed}
use Rattle.netlist_pages.proofs.each.EachIterator.next.Given as goal

-- what is left stands on the pages that are left
abbrev pub invariant-loop-page : goal.invariant-loop-page
invariant-loop-page g l = record {
  used : l.self-inside.page.now ≡ [];
  rest : l.fn.self ≡ listed l.self-inside.pages.now;
}

abbrev pub decreases-loop-page : goal.decreases-loop-page
decreases-loop-page g l = length l.self-inside.pages.now
