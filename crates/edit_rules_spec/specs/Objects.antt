-- The objects of a design, and designs that agree on them.
use Rattle.std.specs.Prelude.{◌≡◌, ◌↔◌, ◌++◌, ℕ, List, [], Option, Some, map, option_map, option_and_then, slice_get, IsSome}
use Rattle.netlist_schema.specs.Design.{Design, lib_at, cell_at, cells_in}
use Rattle.netlist_schema.specs.Hierarchy.{HasInst, IsCell}
use Rattle.netlist_schema.specs.Names.{cell_names}
use Rattle.netlist_schema.specs.Types.{CellBody, CellId, CellKind, Contents as CellContents, Inst, LibHead, LibId, Name, Note, Object, Port}
use Rattle.netlist_schema.specs.declared.ids.Object.TheVariants.{Directory, Interface, Contents, Notes}
use Rattle.edit_rules_spec.specs.declared.reply.CellName.{CellName}

-- the two objects of a cell: what is seen of it from outside, and what is inside
abbrev pub face_object : CellId → Object
face_object id = Interface id

abbrev pub contents_object : CellId → Object
contents_object id = Contents id

-- a cell as seen from outside: the contents are left out, with a mark whether there are any
abbrev pub face_of : CellBody → CellBody
face_of body = record body { contents = option_map (λ _. record { insts = []; nets = [] }) body.contents }

abbrev pub face_at : Design → CellId → Option CellBody
face_at d id = option_map face_of (cell_at d id)

-- what is inside a cell: nothing in a leaf; and no answer where there is no cell
abbrev pub inside_at : Design → CellId → Option (Option CellContents)
inside_at d id = option_map (λ body. body.contents) (cell_at d id)

-- what an object is in a design: the identifiers of a library's cells, the outside of a cell, its inside, or the notes;
-- none where it is absent
pub data ObjectValue : Type 0 where
  of_directory : List (List ℕ) → ObjectValue
  of_interface : CellBody → ObjectValue
  of_contents : Option CellContents → ObjectValue
  of_notes : List Note → ObjectValue

abbrev pub value_of : Design → Object → Option ObjectValue
value_of d (Directory lib) = option_map (λ l. of_directory (cell_names l.cells)) (lib_at d lib)
value_of d (Interface id) = option_map of_interface (face_at d id)
value_of d (Contents id) = option_map of_contents (inside_at d id)
value_of d Notes = Some (of_notes d.notes)

-- the design has the object
abbrev pub IsThere : Design → Object → Type 0
IsThere d o = IsSome (value_of d o)

-- the object has one value in both, or is absent in both
abbrev pub Agrees : Design → Design → Object → Type 0
Agrees d e (Directory lib) = option_map (λ l. cell_names l.cells) (lib_at d lib) ≡ option_map (λ l. cell_names l.cells) (lib_at e lib)
Agrees d e (Interface id) = face_at d id ≡ face_at e id
Agrees d e (Contents id) = inside_at d id ≡ inside_at e id
Agrees d e Notes = d.notes ≡ e.notes

-- they agree on each object of a set
abbrev pub AgreesOn : Design → Design → (Object → Type 0) → Type 0
AgreesOn d e Objects = (o : Object) → Objects o → Agrees d e o

-- the two have the same objects
abbrev pub AreSameObjects : (Object → Type 0) → (Object → Type 0) → Type 0
AreSameObjects A B = (o : Object) → A o ↔ B o

-- the second list begins with the first
abbrev pub IsPrefix : {X : Type 0} → List X → List X → Type 0
IsPrefix {X = X} xs ys = (more : List X) × (ys ≡ xs ++ more)

-- what never changes of a cell: its name, its kind and its ports
pub record Outside : Type 0 where
  pub name : Name
  pub kind : CellKind
  pub ports : List Port

abbrev pub outside_of : CellBody → Outside
outside_of body = record { name = body.name; kind = body.kind; ports = body.ports }

abbrev pub outside_at : Design → CellId → Option Outside
outside_at d id = option_map outside_of (cell_at d id)

-- the second design may come later: title, libraries and top are the same, each directory has gone on,
-- and each cell has the same name, kind and ports
pub record Grown (d e : Design) : Type 0 where
  pub title : d.title ≡ e.title
  pub libs : map (λ lib. lib.head) d.libs ≡ map (λ lib. lib.head) e.libs
  pub top : d.top ≡ e.top
  pub directories : (lib : LibId) → IsPrefix (cell_names (cells_in d lib)) (cell_names (cells_in e lib))
  pub cells : (id : CellId) (outside : Outside) → outside_at d id ≡ Some outside → outside_at e id ≡ Some outside

-- the name of a cell, with that of its library
abbrev pub head_at : Design → LibId → Option LibHead
head_at d lib = slice_get (map (λ l. l.head) d.libs) lib.0

abbrev pub name_of : LibHead → Outside → CellName
name_of head outside = record { lib = head.name.id; cell = outside.name.id }

abbrev pub cell_name_at : Design → CellId → Option CellName
cell_name_at d id = option_and_then (λ head. option_map (name_of head) (outside_at d id)) (head_at d id.lib)

-- each instance is of a cell of the design, as in each valid design
abbrev pub IsClosed : Design → Type 0
IsClosed d = (id : CellId) (inst : Inst) → HasInst d id inst → IsCell d inst.of
