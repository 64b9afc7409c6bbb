use Rattle.std.proofs.Common.{◌≡◌, Some, None, ap, ◌∙◌}
use Rattle.std.specs.FinMap.{get}
use Rattle.ver_table.specs.Entries.{pairs_of}
use Rattle.ver_table.proofs.Values.{page_of, no_page_of}
use Rattle.ver_table.proofs.table.entries_of.Goals as goal

pub returns-in-Some : goal.returns-in-Some
returns-in-Some g c =
    let found : Some c.in-Some.entries.now ≡ get c.args.pages.now c.args.number = c.in-Some.ensures in
    ap pairs_of c.as_slice.ensures.value ∙ page_of c.args.pages.now c.args.number c.in-Some.entries.now found

pub returns-in-None : goal.returns-in-None
returns-in-None g c =
    let none : None ≡ get c.args.pages.now c.args.number = c.in-None.ensures in
    no_page_of c.args.pages.now c.args.number none
