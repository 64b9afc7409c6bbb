use Rattle.std.proofs.Common.{◌≡◌, Some, None}
use Rattle.std.specs.Ordering.{nat_cmp}
use Rattle.std.specs.FinMap.{find}
use Rattle.ver_table.specs.Entries.{pairs_of}
use Rattle.std.proofs.Common.{ap, ◌∙◌}
use Rattle.ver_table.proofs.Values.{order_of_pages, page_in, no_page_in}
use Rattle.ver_table.proofs.directory.entries_of.Goals as goal

pub item_at-requires : goal.item_at-requires
item_at-requires g c = order_of_pages c.args.groups.now c.requires

pub returns-in-Some : goal.returns-in-Some
returns-in-Some g c =
    let found : Some c.in-Some.entries.now ≡ find nat_cmp c.args.number (pairs_of c.args.groups.now) = c.in-Some.ensures in
    ap pairs_of c.as_slice.ensures.value ∙ page_in c.args.groups.now c.args.number c.in-Some.entries.now found

pub returns-in-None : goal.returns-in-None
returns-in-None g c =
    let none : None ≡ find nat_cmp c.args.number (pairs_of c.args.groups.now) = c.in-None.ensures in
    no_page_in c.args.groups.now c.args.number none
