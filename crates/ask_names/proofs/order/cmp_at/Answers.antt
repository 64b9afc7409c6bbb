use Rattle.std.proofs.Common.{List, ℕ, ap, ◌∙◌}
use Rattle.ask_names.specs.Orders.{cmp_to}
use Rattle.ask_names.proofs.order.cmp_at.Goals as goal

pub returns : goal.returns
returns g c = c.cmp_to.ensures ∙ ap (λ (v : List ℕ). cmp_to (g.R.Named.names c.args.items.now) v c.args.one) c.name_at.ensures
