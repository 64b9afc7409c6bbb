use Rattle.std.proofs.Common.{◌≡◌, ◌++◌}
use Rattle.netlist_bus_spec.specs.Members.{numbered}
use Rattle.edif_spec.specs.Nets.{net_at}
use Rattle.edif_nets.proofs.rows.add_members.Given as goal

-- the nets so far, and the place of the form's name for each
abbrev pub invariant-loop-k : goal.invariant-loop-k
invariant-loop-k l = record {
  nets : l.list.nets.items ≡ l.fn.list.nets.items ++ numbered (net_at l.form) 0 l.k;
  places : l.list.places.items ≡ l.fn.list.places.items ++ numbered (λ k. l.fn.place) 0 l.k;
  ends : l.list.ends.items ≡ l.fn.list.ends.items;
}
