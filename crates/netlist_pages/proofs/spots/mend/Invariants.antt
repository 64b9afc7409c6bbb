use Rattle.std.proofs.Common.{◌≡◌, length, take}
use Rattle.netlist_pages.specs.Pages.{before, ends_from}
use Rattle.netlist_pages.proofs.spots.mend.Given as goal

-- the ends before this page are right
abbrev pub invariant-loop-page : goal.invariant-loop-page
invariant-loop-page g l = record {
  each : length l.ends.items ≡ length l.pages;
  front : take l.page l.ends.items ≡ take l.page (ends_from 0 l.pages);
  sum : l.end ≡ before l.pages l.page;
}
