use Rattle.std.proofs.Common.{ℕ, subst}
use Rattle.ask_names.specs.Orders.{ArePlaces}
use Rattle.ask_names.proofs.order.order_of.Goals as goal

pub put_in_order-requires-clause-places : goal.put_in_order-requires-clause-places
put_in_order-requires-clause-places g c = subst (λ (count : ℕ). ArePlaces count c.in_ok-order.order.items) c.count.ensures c.in_ok-order.ensures
