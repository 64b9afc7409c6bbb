-- What a cell refers to is there.
use Rattle.std.specs.Prelude.{ℕ, List, IsSome, slice_get, Option, Some, None}
use Rattle.std.specs.List.{All}
use Rattle.netlist_schema.specs.Design.{Design}
use Rattle.netlist_schema.specs.Hierarchy.{IsCell}
use Rattle.netlist_schema.specs.Types.{Contents, End, Inst, Port}
use Rattle.edif_spec.specs.Canonical.{ports_of_end}

-- there is an instance at the place, where there is a place
abbrev pub HasInstAt : List Inst → Option ℕ → Type 0
HasInstAt insts None = Unit {0}
HasInstAt insts (Some place) = IsSome (slice_get insts place)

-- an end is at a port that is there, and at an instance that is there where it is at one
pub record IsAt (d : Design) (own : List Port) (insts : List Inst) (end : End) : Type 0 where
  pub port : IsSome (slice_get (ports_of_end d.libs own insts end.inst) end.port)
  pub inst : HasInstAt insts end.inst

-- the instances of contents are of cells that are there, and the ends of their nets at ports that are there
pub record IsPlaced (d : Design) (own : List Port) (contents : Contents) : Type 0 where
  pub insts : All (λ inst. IsCell d inst.of) contents.insts
  pub ends : All (λ net. All (IsAt d own contents.insts) net.ends) contents.nets
