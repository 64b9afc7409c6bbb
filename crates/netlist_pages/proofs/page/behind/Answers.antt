use Rattle.std.proofs.Common.{sym}
use Rattle.std.proofs.lemmas.List.{drop_all}
use Rattle.netlist_pages.proofs.page.behind.Goals as goal

pub returns-else-place-items : goal.returns-else-place-items
returns-else-place-items g c = sym (drop_all c.args.place c.args.items.now c.if-place-items.false)
