use Rattle.std.proofs.Common.{List, ℕ, rules}
use Rattle.std.proofs.lemmas.Fn.{always_returns_same}
use Rattle.ask_names.specs.Orders.{cmp_to}
use Rattle.ask_names.proofs.OrderLemmas.{searched}
use Rattle.ask_names.proofs.order.find.Goals as goal

pub returns : goal.returns
returns g c =
    let names : List (List ℕ) = g.R.Named.names c.args.items.now in
    let facts = c.binary_search_by.ensures in
    searched names c.args.name.now c.args.order.now c.binary_search_by.result c.requires facts.bound
    (facts.position (cmp_to names c.args.name.now) (always_returns_same _ _ _ (λ a r f k. search rules)))
