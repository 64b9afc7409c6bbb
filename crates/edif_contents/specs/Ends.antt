-- What the ends of nets are judged by.
use Rattle.std.specs.Prelude.{◌≡◌, ℕ, List, Option, Some, slice_get}
use Rattle.edif_spelling_spec.specs.Tree.{Bare, Placed, bare}
use Rattle.edif_spec.specs.Canonical.{ports_of_end}
use Rattle.edif_spec.specs.Design as design
use Rattle.edif_spec.specs.Means.{MeansEnd}
use Rattle.edif_spec.specs.Faults.{arguments, place_of}
use Rattle.edif_spec.specs.Nets.{Stretch}
use Rattle.edif_spec.specs.Stands.{EndFault, WidthFault}
use Rattle.edif_spec.specs.declared.fault.MeaningFault.{MeaningFault}
use Rattle.edif_parts.specs.Names.{ids}
use Rattle.edif_contents.specs.declared.ends.EndAt.{EndAt}
use Rattle.edif_contents.specs.declared.ends.Surroundings.{Surroundings}

-- the names are those of the ports and of the instances
pub record AreNamed (s : Surroundings) : Type 0 where
  pub ports : ids s.port_names.now ≡ design.port_ids s.ports.now
  pub insts : ids s.inst_names.now ≡ design.inst_ids s.insts.now

-- the ports of an end: those of the cell, or of the cell of an instance
abbrev pub ports_for : Surroundings → Option ℕ → List design.Port
ports_for s inst = ports_of_end s.libs.now.libs s.ports.now s.insts.now inst

-- what an end means there
abbrev pub MeansEndIn : Surroundings → Bare → Stretch → Type 0
MeansEndIn s t e = MeansEnd s.libs.now.libs s.ports.now s.insts.now t e

-- the end that a form means there, and the place of what names its bits
pub record ReadEnd (s : Surroundings) (t : Placed) (e : EndAt) : Type 0 where
  pub mean : MeansEndIn s (bare t) e.stretch
  pub named : Placed
  pub there : slice_get (arguments t) 0 ≡ Some named
  pub place : e.place ≡ place_of named

-- what is wrong with an end of another width than its net
abbrev pub WidthFaultIn : Surroundings → Option ℕ → Placed → MeaningFault → Type 0
WidthFaultIn s array t f = WidthFault s.libs.now.libs s.ports.now s.insts.now array t f

-- what is wrong with an end there
abbrev pub EndFaultIn : Surroundings → Placed → MeaningFault → Type 0
EndFaultIn s t f = EndFault s.libs.now.libs s.ports.now s.insts.now t f
