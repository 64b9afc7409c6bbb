use Rattle.std.proofs.Common.{◌≡◌, take}
use Rattle.netlist_pages.proofs.paged.Paged.share.Given as goal

abbrev pub invariant-loop-page : goal.invariant-loop-page
invariant-loop-page g l = l.pages.items ≡ take l.page-index l.page-items
