-- The canonical text of a design: its tree, and how a tree is laid out in lines.
use Rattle.std.specs.Prelude.{ℕ, zero, suc, pos, Bool, true, false, ◌&&◌, ◌||◌, nat_eq, nat_le, if◌then◌else◌, List, [], ◌∷◌, ◌++◌, map, replicate, Option, Some, None, option_map, unwrap_or, slice_get, decimal, codes}
use Rattle.std.specs.Fmt.{signed_decimal}
use Rattle.edif_spelling_spec.specs.Tree.{Bare, Trees, Form', Word', Integer', String', End, More, form, word, integer, string}
use Rattle.std.specs.Char.{is_ascii_alphabetic}
use Rattle.edif_spec.specs.Keyword.{spelling_of, same}
use Rattle.edif_spec.specs.declared.keyword.Keyword.{Keyword}
use Rattle.edif_spec.specs.declared.keyword.Keyword.TheVariants as keywords
use Rattle.edif_spec.specs.Design as design
use Rattle.edif_spec.specs.Nets.{NetForm, Stretch, net_forms}
use Rattle.netlist_schema.specs.declared.cell.Direction.TheVariants as directions
use Rattle.netlist_schema.specs.declared.cell.CellKind.TheVariants as kinds
use Rattle.netlist_schema.specs.declared.property.Num.TheVariants as numbers
use Rattle.netlist_schema.specs.declared.property.Value.TheVariants as values

-- a form with this keyword
abbrev pub make : Keyword → List Bare → Bare
make k arguments = form (word (spelling_of k) ∷ arguments)

-- a part that may be missing
abbrev pub perhaps : {A : Type 0} → (A → Bare) → Option A → List Bare
perhaps f None = []
perhaps f (Some x) = f x ∷ []

-- an identifier, renamed where it has a shown text
abbrev pub name_with : List ℕ → Option (List ℕ) → Bare
name_with id None = word id
name_with id (Some text) = make keywords.Rename (word id ∷ string text ∷ [])

-- the definition of a name
abbrev pub name_tree : design.Name → Bare
name_tree name = name_with name.id name.shown

-- a number: an integer, or a mantissa and an exponent
abbrev pub number_tree : design.Num → Bare
number_tree (numbers.Int z) = integer z
number_tree (numbers.Scaled m x) = make keywords.E (integer m ∷ integer x ∷ [])

-- a truth value
abbrev pub boolean_tree : Bool → Bare
boolean_tree true = make keywords.True []
boolean_tree false = make keywords.False []

-- the value of a property
abbrev pub value_tree : design.Value → Bare
value_tree (values.Boolean b) = make keywords.Boolean (boolean_tree b ∷ [])
value_tree (values.Integer z) = make keywords.Integer (integer z ∷ [])
value_tree (values.Number n) = make keywords.Number (number_tree n ∷ [])
value_tree (values.Text text) = make keywords.String (string text ∷ [])

-- a form with a string alone
abbrev pub text_tree : Keyword → List ℕ → Bare
text_tree k text = make k (string text ∷ [])

-- a property: its key, its value, its owner
abbrev pub property_tree : design.Property → Bare
property_tree p = make keywords.Property (name_tree p.key ∷ value_tree p.value ∷ perhaps (text_tree keywords.Owner) p.owner)

-- the word of a direction
abbrev pub direction_word : design.Direction → List ℕ
direction_word directions.Input = codes "INPUT"
direction_word directions.Output = codes "OUTPUT"
direction_word directions.Inout = codes "INOUT"

-- a direction
abbrev pub direction_tree : design.Direction → Bare
direction_tree d = make keywords.Direction (word (direction_word d) ∷ [])

-- the name of a port or of a net, as an array where it has a width
abbrev pub port_name_tree : design.Name → Option ℕ → Bare
port_name_tree name None = name_tree name
port_name_tree name (Some n) = make keywords.Array (name_tree name ∷ integer (pos n) ∷ [])

-- a port: its name, direction, designator and properties
abbrev pub port_tree : design.Port → Bare
port_tree p = make keywords.Port (port_name_tree p.name p.array ∷ (perhaps direction_tree p.direction ++ (perhaps (text_tree keywords.Designator) p.designator ++ map property_tree p.properties)))

-- a reference to a cell, which names its library
abbrev pub cell_ref_tree : List design.Lib → design.CellId → Bare
cell_ref_tree libs id = make keywords.CellRef (word (design.cell_id libs id) ∷ make keywords.LibraryRef (word (design.lib_id libs id.lib.0) ∷ []) ∷ [])

-- an instance: its name, its cell by the view, its designator and properties
abbrev pub inst_tree : List design.Lib → design.Inst → Bare
inst_tree libs i = make keywords.Instance (name_tree i.name
    ∷ make keywords.ViewRef (word (design.view_id libs i.of) ∷ cell_ref_tree libs i.of ∷ [])
    ∷ (perhaps (text_tree keywords.Designator) i.designator ++ map property_tree i.properties))

-- the ports among which an end has its place
abbrev pub ports_of_end : List design.Lib → List design.Port → List design.Inst → Option ℕ → List design.Port
ports_of_end libs own insts None = own
ports_of_end libs own insts (Some i) = unwrap_or (option_map (λ x. design.ports_at libs x.of) (slice_get insts i)) []

-- a bit of a scalar port is named by the port, one of an array port as a member
abbrev pub bit_tree : List ℕ → Option ℕ → ℕ → Bare
bit_tree port None bit = word port
bit_tree port (Some width) bit = make keywords.Member (word port ∷ integer (pos bit) ∷ [])

-- a bit of a port; an empty word where there is no such port, which no valid design has
abbrev pub port_ref_tree : Option design.Port → ℕ → Bare
port_ref_tree None bit = word []
port_ref_tree (Some p) bit = bit_tree p.name.id p.array bit

-- a whole port, by its name; an empty word where there is no such port
abbrev pub whole_port_tree : Option design.Port → Bare
whole_port_tree None = word []
whole_port_tree (Some p) = word p.name.id

-- what a net joins of a port: a bit, or all of it where the net has an array
abbrev pub bits_tree : Option ℕ → Option design.Port → ℕ → Bare
bits_tree None port bit = port_ref_tree port bit
bits_tree (Some width) port bit = whole_port_tree port

-- an end of a net with or without an array: its bits, and its instance where it is at one
abbrev pub end_tree : List design.Lib → List design.Port → List design.Inst → Option ℕ → Stretch → Bare
end_tree libs own insts array s = make keywords.PortRef (bits_tree array (slice_get (ports_of_end libs own insts s.inst) s.port) s.first
    ∷ perhaps (λ i. make keywords.InstanceRef (word (design.inst_id insts i) ∷ [])) s.inst)

-- a net as it is written: its name, as an array where it has one, its ends, its properties
abbrev pub net_tree : List design.Lib → List design.Port → List design.Inst → NetForm → Bare
net_tree libs own insts n = make keywords.Net (port_name_tree n.name n.array ∷ make keywords.Joined (map (end_tree libs own insts n.array) n.joined) ∷ map property_tree n.properties)

-- contents: the instances, then the nets, with each greatest run in one form
abbrev pub contents_tree : List design.Lib → List design.Port → design.Contents → Bare
contents_tree libs own c = make keywords.Contents (map (inst_tree libs) c.insts ++ map (net_tree libs own c.insts) (net_forms (ports_of_end libs own c.insts) c.nets))

-- the word of a kind of cell
abbrev pub kind_word : design.CellKind → List ℕ
kind_word kinds.Generic = codes "GENERIC"
kind_word kinds.Tie = codes "TIE"
kind_word kinds.Ripper = codes "RIPPER"

-- an interface: the ports, then its properties
abbrev pub interface_tree : design.CellBody → Bare
interface_tree c = make keywords.Interface (map port_tree c.ports ++ map property_tree c.interface_properties)

-- the view of a cell: its name, its type, the interface, its properties, the contents
abbrev pub view_tree : List design.Lib → design.CellBody → Bare
view_tree libs c = make keywords.View (name_tree c.view ∷ make keywords.ViewType (word (codes "NETLIST") ∷ []) ∷ interface_tree c
    ∷ (map property_tree c.view_properties ++ perhaps (contents_tree libs c.ports) c.contents))

-- a cell: its name, its kind, its properties, its view
abbrev pub cell_tree : List design.Lib → design.CellBody → Bare
cell_tree libs c = make keywords.Cell (name_tree c.name ∷ make keywords.CellType (word (kind_word c.kind) ∷ [])
    ∷ (map property_tree c.properties ++ view_tree libs c ∷ []))

-- a level of 0
abbrev pub zero_tree : Keyword → Bare
zero_tree k = make k (integer (pos 0) ∷ [])

-- the keyword of a library, external or not
abbrev pub library_keyword : Bool → Keyword
library_keyword false = keywords.Library
library_keyword true = keywords.External

-- a library: its name, its level, its technology, its cells
abbrev pub library_tree : List design.Lib → design.Lib → Bare
library_tree libs l = make (library_keyword l.head.external) (name_tree l.head.name ∷ zero_tree keywords.EdifLevel
    ∷ make keywords.Technology (form (word (codes "numberDefinition") ∷ []) ∷ []) ∷ map (cell_tree libs) l.cells)

-- a note: its mark, its path, its property
abbrev pub note_tree : design.Note → Bare
note_tree n = make keywords.UserData (word (codes "netdb_note") ∷ make keywords.Path (map word n.path) ∷ property_tree n.property ∷ [])

-- the design: its name, its top cell, its properties, the notes
abbrev pub design_tree : List design.Lib → List design.Note → design.TopHead → Bare
design_tree libs notes top = make keywords.Design (name_tree top.name ∷ cell_ref_tree libs top.cell ∷ (map property_tree top.properties ++ map note_tree notes))

-- the tree of the canonical text
abbrev pub tree_of : design.Design → Bare
tree_of d = make keywords.Edif (name_tree d.title
    ∷ make keywords.EdifVersion (integer (pos 2) ∷ integer (pos 0) ∷ integer (pos 0) ∷ [])
    ∷ zero_tree keywords.EdifLevel
    ∷ make keywords.KeywordMap (zero_tree keywords.KeywordLevel ∷ [])
    ∷ (map (library_tree d.libs) d.libs ++ perhaps (design_tree d.libs d.notes) d.top))

-- Spellings: an identifier has `&` where its first byte is no letter.
abbrev pub name_text : List ℕ → List ℕ
name_text [] = 38 ∷ []
name_text (b ∷ bs) = if is_ascii_alphabetic b then b ∷ bs else 38 ∷ b ∷ bs

-- a byte that stands for itself in a string: printable, and neither `"` nor `%`
abbrev pub is_plain : ℕ → Bool
is_plain b = nat_le 32 b && nat_le b 126 && (if nat_eq b 34 || nat_eq b 37 then false else true)

-- A string's body. Each longest run of bytes that are not plain is written as their codes between two `%`.
abbrev mutual
  pub plain_text : List ℕ → List ℕ
  plain_text [] = []
  plain_text (b ∷ bs) = if is_plain b then b ∷ plain_text bs else 37 ∷ (decimal b ++ coded_text bs)

  pub coded_text : List ℕ → List ℕ
  coded_text [] = 37 ∷ []
  coded_text (b ∷ bs) = if is_plain b then 37 ∷ b ∷ plain_text bs else 32 ∷ (decimal b ++ coded_text bs)

-- a string: its body between quotes
abbrev pub string_text : List ℕ → List ℕ
string_text text = 34 ∷ (plain_text text ++ 34 ∷ [])

-- The large forms: how many arguments stand in the head, on the line of the keyword.
abbrev pub large_forms : List (Keyword × ℕ)
large_forms = (keywords.Edif, 1) ∷ (keywords.Library, 1) ∷ (keywords.External, 1) ∷ (keywords.Cell, 2) ∷ (keywords.View, 2) ∷ (keywords.Interface, 0) ∷ (keywords.Contents, 0) ∷ (keywords.Design, 2) ∷ []

-- how many arguments stand in the head of a form with this keyword, where it is a large one
abbrev pub head_of : List (Keyword × ℕ) → List ℕ → Option ℕ
head_of [] name = None
head_of (e ∷ es) name = if same name (spelling_of e.0) then Some e.1 else head_of es name

-- how many trees there are
abbrev pub count : {P : Type 0} → Trees P → ℕ
count End = 0
count (More t ts) = suc (count ts)

-- how many of the arguments after the first stand on its line
abbrev pub on_line : Bare → Trees (Unit {0}) → ℕ
on_line (Word' p name) ts = unwrap_or (head_of large_forms name) (count ts)
on_line (Form' p us) ts = count ts
on_line (Integer' p z) ts = count ts
on_line (String' p text) ts = count ts

-- a new line at a level, or a blank, before an argument
abbrev pub new_line : ℕ → List ℕ
new_line level = 10 ∷ replicate level 32

-- The layout of a tree whose parts on lines of their own are at a level.
abbrev mutual
  pub layout : ℕ → Bare → List ℕ
  layout level (Form' p End) = codes "()"
  layout level (Form' p (More t ts)) = 40 ∷ (layout (suc level) t ++ (layouts level (on_line t ts) ts ++ 41 ∷ []))
  layout level (Word' p name) = name_text name
  layout level (Integer' p z) = signed_decimal z
  layout level (String' p text) = string_text text

  pub layouts : ℕ → ℕ → Trees (Unit {0}) → List ℕ
  layouts level n End = []
  layouts level zero (More t ts) = new_line level ++ (layout (suc level) t ++ layouts level zero ts)
  layouts level (suc n) (More t ts) = 32 ∷ (layout (suc level) t ++ layouts level n ts)

-- The text of a design with its cells in the order of the directories. The canonical text is that of the arranged design.
abbrev pub text_as_listed : design.Design → List ℕ
text_as_listed d = layout 1 (tree_of d) ++ 10 ∷ []
