use Rattle.ask_names.specs.Orders.{ArePlaces}
use Rattle.ask_names.proofs.order.places.Given as goal

abbrev pub invariant-loop-place : goal.invariant-loop-place
invariant-loop-place l = ArePlaces l.place l.places.items
