use Rattle.std.proofs.Common.{sym, ap, ◌∙◌}
use Rattle.std.specs.Option.{option_copied}
use Rattle.ask_names.proofs.IndexLemmas.{orders_found}
use Rattle.ask_names.proofs.look.orders_at.Goals as goal

pub returns-in-Some : goal.returns-in-Some
returns-in-Some g c =
    orders_found (g.S.Shown.design c.args.design.now) c.args.index.now c.args.cell c.in-Some.field-0.now c.orders.result c.requires (sym c.cell.ensures.value ∙ ap option_copied c.in-Some.is) c.orders.ensures

pub returns-in-None : goal.returns-in-None
returns-in-None g c = sym c.cell.ensures.value ∙ ap option_copied c.in-None.is
