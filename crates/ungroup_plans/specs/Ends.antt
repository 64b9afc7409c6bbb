-- The ends of nets afterwards.
use Rattle.std.specs.Prelude.{◌==◌, ◌+◌, ◌-◌, ℕ, cond, nat_lt, List, [], ◌∷◌, Option, Some, None}
use Rattle.std.specs.List.{flat_map}
use Rattle.netlist_schema.specs.Types.{End, Net}

-- the end of an outer net, where the instance at a place gives way to so many children
abbrev pub outer_up : ℕ → ℕ → End → Option ℕ → List End
outer_up place children end None = end ∷ []
outer_up place children end (Some i) = cond (i == place) [] (record end { inst = Some (cond (nat_lt place i) (i + children - 1) i) } ∷ [])

-- the end of an inner net, where the first child gets this place
abbrev pub inner_up : ℕ → End → Option ℕ → List End
inner_up place end None = []
inner_up place end (Some j) = record end { inst = Some (place + j) } ∷ []

abbrev pub outer_ends : ℕ → ℕ → Net → List End
outer_ends place children net = flat_map (λ end. outer_up place children end end.inst) net.ends

abbrev pub inner_ends : ℕ → Net → List End
inner_ends place net = flat_map (λ end. inner_up place end end.inst) net.ends
