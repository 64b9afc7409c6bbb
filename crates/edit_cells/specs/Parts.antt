-- A cell as two objects: what is seen of it from outside, and what is inside.
use Rattle.std.specs.Prelude.{◌≡◌, ◌≤◌, Bool, List, Option, is_none, length, option_map}
use Rattle.std.specs.List.{flat_map}
use Rattle.netlist_schema.specs.Design.{Design, cell_at}
use Rattle.netlist_schema.specs.Types.{CellBody, CellId, CellKind, Contents, Name, Object, Port, Property}
use Rattle.netlist_schema.specs.declared.limits.TheConstants.{MOST_ENDS, MOST_INSTS, MOST_NETS}
use Rattle.edit_rules_spec.specs.Objects.{contents_object, face_object}
use Rattle.edit_cells.specs.declared.face.Face.{Face}

-- the object that a look from outside reads, and that of a look inside
abbrev pub IsFace : CellId → Object → Type 0
IsFace id o = o ≡ face_object id

abbrev pub IsInside : CellId → Object → Type 0
IsInside id o = o ≡ contents_object id

-- a cell as seen from outside
pub record Seen : Type 0 where
  pub name : Name
  pub kind : CellKind
  pub properties : List Property
  pub ports : List Port
  pub leaf : Bool

abbrev pub seen_of : CellBody → Seen
seen_of body = record { name = body.name; kind = body.kind; properties = body.properties; ports = body.ports; leaf = is_none body.contents }

abbrev pub seen_at : Design → CellId → Option Seen
seen_at d id = option_map seen_of (cell_at d id)

-- what a lent face shows
abbrev pub shown_by : Face → Seen
shown_by face = record { name = face.name.now; kind = face.kind; properties = face.properties.now; ports = face.ports.now; leaf = face.leaf }

-- the limits of what is inside a cell
pub record HasLimits (contents : Contents) : Type 0 where
  pub insts : length contents.insts ≤ MOST_INSTS
  pub nets : length contents.nets ≤ MOST_NETS
  pub ends : length (flat_map (λ net. net.ends) contents.nets) ≤ MOST_ENDS
