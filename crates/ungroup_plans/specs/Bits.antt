-- Bits that nets join at an instance, or as the cell's own.
use Rattle.std.specs.Prelude.{◌==◌, ◌+◌, ℕ, Bool, true, false, cond, List, [], ◌∷◌, ◌++◌, Option, Some, None}
use Rattle.std.specs.List.{Contains, flat_map}
use Rattle.netlist_schema.specs.Types.{End, Net}
use Rattle.ungroup_spec.specs.Groups.{ends_of_net}
use Rattle.ungroup_plans.specs.declared.bits.JoinedBit.{JoinedBit}
use Rattle.ungroup_plans.specs.declared.bits.PortBit.{PortBit}

-- an end with this instance is at that one
abbrev pub is_there : Option ℕ → Option ℕ → Bool
is_there None None = true
is_there None (Some other) = false
is_there (Some inst) None = false
is_there (Some inst) (Some other) = other == inst

abbrev pub bits_at : Option ℕ → ℕ → End → Option ℕ → List JoinedBit
bits_at inst net end of_end = cond (is_there inst of_end) (record { at = record { port = end.port; bit = end.bit }; net = net } ∷ []) []

-- the bit of an end of a net, where the end is there
abbrev pub bits_of : Option ℕ → ℕ → End → List JoinedBit
bits_of inst net end = bits_at inst net end end.inst

-- those of all nets, the first of which has this number
abbrev pub bits_from : Option ℕ → ℕ → List Net → List JoinedBit
bits_from inst n [] = []
bits_from inst n (net ∷ nets) = flat_map (bits_of inst n) net.ends ++ bits_from inst (n + 1) nets

-- the bit as an end there
abbrev pub end_at : Option ℕ → PortBit → End
end_at inst b = record { inst = inst; port = b.port; bit = b.bit }

-- its net joins the bit there
abbrev pub IsJoined : List Net → Option ℕ → JoinedBit → Type 0
IsJoined nets inst j = Contains (ends_of_net nets j.net) (end_at inst j.at)
