use Rattle.std.proofs.Common.{◌≡◌, ◌++◌}
use Rattle.edif_tree.specs.Handles.{all}
use Rattle.edif_nets.specs.Joins.{places_of}
use Rattle.edif_nets.proofs.JoinLemmas.{net_row, rows_below}
use Rattle.edif_nets.proofs.joins.row_places.Given as goal

-- the places of the ends of the nets so far
abbrev pub invariant-loop : goal.invariant-loop
invariant-loop l = l.places.items ≡ l.fn.places.items ++ places_of (rows_below (λ k. net_row k l.size (all l.nodes)) l.counter)
