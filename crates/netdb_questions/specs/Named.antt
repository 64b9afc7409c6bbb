-- What names lead to: a path, a net, a port with a bit; or the refusal that says where they lead to nothing.
use Rattle.std.specs.Prelude.{◌≡◌, ℕ, List, [], Option, Some, None, IsSome, Result, Ok, Err, nat_lt, option_and_then, slice_get, if◌then◌else◌}
use Rattle.std.specs.Option.{option_map_or}
use Rattle.netlist_schema.specs.Design.{Design, port_width}
use Rattle.netlist_schema.specs.Types.{Port}
use Rattle.edit_rules_spec.specs.Find.{net_place, port_place}
use Rattle.flat_spec.specs.Types.{NetAt}
use Rattle.ask_names.specs.Places.{path_named, ports_at}
use Rattle.ask_spec.specs.Places.{at, nets_of}
use Rattle.netdb_questions.specs.declared.finding.PortAt.{PortAt}
use Rattle.netdb_questions.specs.declared.finding.Refusal.{Refusal}
use Rattle.netdb_questions.specs.declared.finding.Refusal.TheVariants as no

-- the ports of the occurrence at the path, none where there is no such occurrence
abbrev pub ports_of : Design → List ℕ → List Port
ports_of d path = option_map_or (ports_at d) (at d path) []

-- the place, where the port there has that bit
abbrev pub bit_at : List Port → ℕ → ℕ → Option ℕ
bit_at ports bit place = option_and_then (λ port. if nat_lt bit (port_width port) then Some place else None) (slice_get ports place)

-- the place of the port with that identifier, where it has that bit
abbrev pub bit_place : List ℕ → ℕ → List Port → Option ℕ
bit_place name bit ports = option_and_then (bit_at ports bit) (port_place name ports)

-- the text leads to the occurrence at the path
pub record LeadsTo (d : Design) (text path : List ℕ) : Type 0 where
  pub named : path_named d text ≡ Some path
  pub there : IsSome (at d path)

-- it does; it leads to none; or an allocation was refused
abbrev pub IsPathNamed : Design → List ℕ → Result (List ℕ) Refusal → Type 0
IsPathNamed d text (Ok path) = LeadsTo d text path
IsPathNamed d text (Err no.NoPath) = path_named d text ≡ None
IsPathNamed d text (Err no.NoMemory) = Unit {0}
IsPathNamed d text (Err other) = ⊥

-- the net with that identifier in the occurrence to which the text leads; there is no such occurrence; it has no such net; or an allocation
-- was refused
abbrev pub IsNetNamed : Design → List ℕ → List ℕ → Result NetAt Refusal → Type 0
IsNetNamed d text name (Ok x) = LeadsTo d text x.path × (net_place name (nets_of d x.path) ≡ Some x.net)
IsNetNamed d text name (Err no.NoPath) = path_named d text ≡ None
IsNetNamed d text name (Err no.NoName) = (path : List ℕ) × LeadsTo d text path × (net_place name (nets_of d path) ≡ None)
IsNetNamed d text name (Err no.NoMemory) = Unit {0}
IsNetNamed d text name (Err no.NoNet) = ⊥

-- the port with that identifier, which has that bit; there is no such occurrence; it has no such port, or the port no such bit; or an
-- allocation was refused
abbrev pub IsBitNamed : Design → List ℕ → List ℕ → ℕ → Result PortAt Refusal → Type 0
IsBitNamed d text name bit (Ok found) = LeadsTo d text found.path × (bit_place name bit (ports_of d found.path) ≡ Some found.port)
IsBitNamed d text name bit (Err no.NoPath) = path_named d text ≡ None
IsBitNamed d text name bit (Err no.NoName) = (path : List ℕ) × LeadsTo d text path × (bit_place name bit (ports_of d path) ≡ None)
IsBitNamed d text name bit (Err no.NoMemory) = Unit {0}
IsBitNamed d text name bit (Err no.NoNet) = ⊥
