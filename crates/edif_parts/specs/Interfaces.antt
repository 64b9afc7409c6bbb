-- What is read of an interface.
use Rattle.std.specs.Prelude.{◌≡◌, ◌+◌, ◌<◌, ◌≤◌, ◌⊎◌, ℕ, List, [], ◌∷◌, ◌++◌, None, map, length, sum_by}
use Rattle.std.specs.List.{All}
use Rattle.edif_spelling_spec.specs.Tree.{Placed, bare}
use Rattle.netlist_schema.specs.Design.{port_width}
use Rattle.netlist_schema.specs.Names.{AreDistinct, HasDistinctKeys}
use Rattle.netlist_schema.specs.declared.limits.TheConstants.{MOST_BITS, MOST_PORTS}
use Rattle.netlist_schema.specs.Typed.{IsTypedPort, IsTypedProperty}
use Rattle.edif_spec.specs.Design as design
use Rattle.edif_spec.specs.Faults.{Among, Repeats, Beyond, BeyondBits, followers}
use Rattle.edif_spec.specs.Means.{MeansPort, MeansProperties}
use Rattle.edif_spec.specs.Rows.{IsFormOf, Each, those}
use Rattle.edif_spec.specs.Stands.{PortFault}
use Rattle.edif_spec.specs.declared.fault.MeaningFault.{MeaningFault}
use Rattle.edif_spec.specs.declared.fault.MeaningFault.TheVariants.{OverLimit}
use Rattle.edif_spec.specs.declared.keyword.Keyword.TheVariants as keywords
use Rattle.edif_parts.specs.Names.{DefinesName, ids}
use Rattle.edif_parts.specs.declared.interface.Interface.{Interface}
use Rattle.edif_parts.specs.declared.interface.Ports.{Ports}
use Rattle.edif_parts.specs.declared.ports.PortAt.{PortAt}

-- The ports among the followers of an interface, and their names.
pub record ReadPorts (ts : List Placed) (p : Ports) : Type 0 where
  pub ports : Each MeansPort (those keywords.Port (map bare ts)) p.ports
  pub typed : All IsTypedPort p.ports
  pub port_keys : All (λ (p : design.Port). HasDistinctKeys p.properties) p.ports
  pub distinct : AreDistinct (design.port_ids p.ports)
  pub count : length p.ports ≤ MOST_PORTS
  pub bits : sum_by port_width p.ports ≤ MOST_BITS
  pub names : ids p.names ≡ design.port_ids p.ports

-- in ports: in one of them, a name that repeats, more ports or bits than allowed
abbrev pub PortsFault : List Placed → MeaningFault → Type 0
PortsFault us f = Among PortFault us f ⊎ (Repeats us f ⊎ (Beyond MOST_PORTS us f ⊎ BeyondBits MOST_BITS 0 us f))

-- a port at a place passes a limit, behind so many others, where so many bits are its own and theirs
abbrev pub PassesLimit : ℕ → ℕ → ℕ → MeaningFault → Type 0
PassesLimit ports bits place f = ((MOST_PORTS ≤ ports) × (f ≡ OverLimit MOST_PORTS place)) ⊎ ((MOST_BITS < bits) × (f ≡ OverLimit MOST_BITS place))

-- a port behind others of so many bits, within the limits, and its name, which no other has: the bits with its own
pub record PortAdded (read : PortAt) (bits : ℕ) (old new : List design.Port) (names more : List (List ℕ × ℕ)) (all_bits : ℕ) : Type 0 where
  pub name : DefinesName names read.port.name.id read.place more None
  pub list : new ≡ old ++ read.port ∷ []
  pub sum : all_bits ≡ bits + port_width read.port
  pub count : length old < MOST_PORTS
  pub most : all_bits ≤ MOST_BITS

-- The ports and the properties that an interface means, and the names of the ports.
pub record ReadInterface (t : Placed) (i : Interface) : Type 0 where
  pub form : IsFormOf keywords.Interface (bare t) [] (map bare (followers keywords.Interface t))
  pub ports : Each MeansPort (those keywords.Port (map bare (followers keywords.Interface t))) i.ports
  pub typed : All IsTypedPort i.ports
  pub port_keys : All (λ (p : design.Port). HasDistinctKeys p.properties) i.ports
  pub distinct : AreDistinct (design.port_ids i.ports)
  pub count : length i.ports ≤ MOST_PORTS
  pub bits : sum_by port_width i.ports ≤ MOST_BITS
  pub names : ids i.names ≡ design.port_ids i.ports
  pub properties : MeansProperties (map bare (followers keywords.Interface t)) i.properties
  pub typed_properties : All IsTypedProperty i.properties
  pub keys : HasDistinctKeys i.properties
