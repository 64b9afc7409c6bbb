-- The contents after an instance is dissolved into them.
use Rattle.std.specs.Prelude.{◌+◌, ◌-◌, ◌==◌, ℕ, cond, nat_lt, List, [], ◌∷◌, ◌++◌, Option, Some, None, length, map, filter, take, drop}
use Rattle.std.specs.List.{enumerate_from, flat_map}
use Rattle.netlist_schema.specs.Types.{Contents, End, Inst, Name, Net}
use Rattle.ungroup_spec.specs.Groups.{Site, Part, outer, inner, ends_of_part, group, is_head}
use Rattle.ungroup_spec.specs.Names.{named_up}

-- ---- instances

-- the children, with the names that they get
abbrev pub inst_name : Inst → Name
inst_name inst = inst.name

abbrev pub with_inst_name : Name → Inst → Inst
with_inst_name name inst = record inst { name = name }

abbrev pub children : Site → List Inst
children s = named_up inst_name with_inst_name (map (λ inst. inst.name.id) s.around.insts) s.inst.name s.within.insts

-- they stand in the place of the instance
abbrev pub insts_after : Site → List Inst
insts_after s = take s.place s.around.insts ++ (children s ++ drop (s.place + 1) s.around.insts)

-- where an instance around the dissolved one stands afterwards: those behind it move on by the number of children, less one
abbrev pub moved_place : Site → ℕ → ℕ
moved_place s i = cond (nat_lt s.place i) (i + length s.within.insts - 1) i

-- ---- nets

-- the end of an outer net afterwards: it moves with its instance, and is gone where that is the dissolved one
abbrev pub outer_end_at : Site → End → Option ℕ → List End
outer_end_at s end None = end ∷ []
outer_end_at s end (Some i) = cond (i == s.place) [] (record end { inst = Some (moved_place s i) } ∷ [])

-- the end of an inner net afterwards: it moves up with its child, and is gone where it is the cell's own
abbrev pub inner_end_at : Site → End → Option ℕ → List End
inner_end_at s end None = []
inner_end_at s end (Some j) = record end { inst = Some (s.place + j) } ∷ []

-- the ends of a net afterwards
abbrev pub ends_up : Site → Part → List End
ends_up s (outer n) = flat_map (λ end. outer_end_at s end end.inst) (ends_of_part s (outer n))
ends_up s (inner m) = flat_map (λ end. inner_end_at s end end.inst) (ends_of_part s (inner m))

-- the ends of its group: those of the outer nets in order, and then those of the inner ones
abbrev pub ends_after : Site → Part → List End
ends_after s x = flat_map (ends_up s) (group s x)

-- the first nets of their groups, with their places: the outer ones, which stay, and the inner ones, which become new nets
abbrev pub kept : Site → List (ℕ × Net)
kept s = filter (λ p. is_head s (outer p.0)) (enumerate_from 0 s.around.nets)

abbrev pub loose : Site → List (ℕ × Net)
loose s = filter (λ p. is_head s (inner p.0)) (enumerate_from 0 s.within.nets)

-- the net with the ends of its group
abbrev pub joined : Site → (ℕ → Part) → ℕ × Net → Net
joined s part p = record p.1 { ends = ends_after s (part p.0) }

abbrev pub net_name : Net → Name
net_name net = net.name

abbrev pub with_net_name : Name → Net → Net
with_net_name name net = record net { name = name }

-- the new nets, with the names that they get
abbrev pub new_nets : Site → List Net
new_nets s = named_up net_name with_net_name (map (λ net. net.name.id) s.around.nets) s.inst.name (map (joined s inner) (loose s))

-- the nets that stay, in their places, and then the new ones
abbrev pub nets_after : Site → List Net
nets_after s = map (joined s outer) (kept s) ++ new_nets s

abbrev pub contents_after : Site → Contents
contents_after s = record { insts = insts_after s; nets = nets_after s }
