use Rattle.std.proofs.Common.{◌-◌, ◌+◌, ◌<◌, ◌≤◌, length}
use Rattle.netlist_pages.specs.Pages.{before}
use Rattle.netlist_pages.proofs.spots.page_of.Given as goal

-- the page is not before the one bound nor behind the other
abbrev pub invariant-loop-low : goal.invariant-loop-low
invariant-loop-low g l = record {
  order : l.low ≤ l.high;
  within : l.high ≤ length l.pages;
  behind : before l.pages l.low ≤ l.place;
  inside : l.high < length l.pages → l.place < before l.pages (l.high + 1);
}

abbrev pub decreases-loop-low : goal.decreases-loop-low
decreases-loop-low g l = l.high - l.low
