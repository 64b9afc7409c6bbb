-- The bits of instances that nets join.
use Rattle.std.specs.Prelude.{◌≡◌, ◌<◌, ◌≤◌, ◌⊎◌, ℕ, List, [], ◌∷◌, slice_get}
use Rattle.std.specs.List.{Contains, enumerate_from, flat_map}
use Rattle.std.specs.Option.{option_map_or}
use Rattle.std.specs.Ordering.{nat_cmp, ordering_then}
use Rattle.std.specs.declared.cmp.Ordering.{Ordering}
use Rattle.netlist_schema.specs.Types.{End, Net}
use Rattle.flat_spec.specs.Paths.{on}
use Rattle.net_classes.specs.declared.joints.Joint.{Joint}

-- the joint of an end on an instance, where the net has that place
abbrev pub joint_of : ℕ → End → List Joint
joint_of net e = option_map_or (λ inst. record { inst = inst; port = e.port; bit = e.bit; net = net } ∷ []) e.inst []

-- the joints of nets, the first of which has that place: net by net, and in the order of their ends
abbrev pub joints_from : ℕ → List Net → List Joint
joints_from place nets = flat_map (λ p. flat_map (joint_of p.0) p.1.ends) (enumerate_from place nets)

-- the net with that place joins the bit of the instance
abbrev pub IsJointIn : List Net → Joint → Type 0
IsJointIn nets j =
    Contains (option_map_or (λ net. net.ends) (slice_get nets j.net) []) (on j.inst (record { port = j.port; bit = j.bit }))

-- the order of joints: by instance, port, bit and net
abbrev pub joint_cmp : Joint → Joint → Ordering
joint_cmp a b = ordering_then (nat_cmp a.inst b.inst) (ordering_then (nat_cmp a.port b.port) (ordering_then (nat_cmp a.bit b.bit) (nat_cmp a.net b.net)))

-- the first joint's bit does not come behind the second's
abbrev pub IsNotBehind : Joint → Joint → Type 0
IsNotBehind a b =
    (a.inst < b.inst) ⊎ ((a.inst ≡ b.inst) × ((a.port < b.port) ⊎ ((a.port ≡ b.port) × (a.bit ≤ b.bit))))
