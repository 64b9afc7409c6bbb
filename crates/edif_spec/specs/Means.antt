-- What a tree means as a design: a definition for each row of the table of forms.
use Rattle.std.specs.Prelude.{◌≡◌, ℕ, suc, ◌<◌, pos, FitsSigned, List, [], ◌∷◌, ◌++◌, take, length, filter, count_by, Bool, true, false, ◌||◌, ◌&&◌, Option, Some, None, IsTrue, option_map, unwrap_or, slice_get, ◌⊎◌, codes, nat_eq, if◌then◌else◌}
use Rattle.std.specs.List.{AllByRecursion, flat_map}
use Rattle.edif_spelling_spec.specs.Tree.{Bare, Form', Word', More, form, word, integer, string}
use Rattle.edif_spec.specs.Keyword.{spelling_of, same}
use Rattle.edif_spec.specs.Rows.{has_keyword, those, IsFormOf, Each, EachAfter, Perhaps, Just}
use Rattle.edif_spec.specs.declared.keyword.Keyword.{Keyword}
use Rattle.edif_spec.specs.declared.keyword.Keyword.TheVariants as keywords
use Rattle.netlist_schema.specs.Valid.{IsValid}
use Rattle.netlist_schema.specs.Width.{IsWidth}
use Rattle.std.specs.Int.{w32}
use Rattle.edif_spec.specs.Design as design
use Rattle.edif_spec.specs.Canonical.{direction_word, kind_word, library_keyword, ports_of_end}
use Rattle.edif_spec.specs.Nets.{NetForm, Stretch, nets_of, row_size}
use Rattle.netlist_schema.specs.declared.property.Num.TheVariants as numbers
use Rattle.netlist_schema.specs.declared.property.Value.TheVariants as values

-- equal byte for byte
abbrev pub equal : List ℕ → List ℕ → Bool
equal [] [] = true
equal [] (c ∷ cs) = false
equal (b ∷ bs) [] = false
equal (b ∷ bs) (c ∷ cs) = nat_eq b c && equal bs cs

-- The definition that a reference means: the one of equal spelling, else the only one that is equal ignoring case.
pub data Meant : Type 0 where
  Found : (place : ℕ) → Meant
  Absent : Meant
  Several : Meant

-- the place of the first name that passes a test
abbrev pub first_place : (List ℕ → Bool) → List (List ℕ) → Option ℕ
first_place p [] = None
first_place p (n ∷ ns) = if p n then Some 0 else option_map (λ i. suc i) (first_place p ns)

-- by how many names are the same ignoring case: none, the only one, or several
abbrev pub only_place : ℕ → Option ℕ → Meant
only_place n None = Absent
only_place n (Some i) = if nat_eq n 1 then Found i else Several

-- an equal name comes before all that are only the same ignoring case
abbrev pub equal_or : Option ℕ → Meant → Meant
equal_or (Some i) other = Found i
equal_or None other = other

-- what a name means in a scope
abbrev pub meant : List (List ℕ) → List ℕ → Meant
meant scope name = equal_or (first_place (equal name) scope) (only_place (count_by (same name) scope) (first_place (same name) scope))

-- a name definition: an identifier, or rename with its text
abbrev pub MeansName : Bare → design.Name → Type 0
MeansName t n = ((t ≡ word n.id) × (n.shown ≡ None))
    ⊎ ((text : List ℕ) × IsFormOf keywords.Rename t (word n.id ∷ string text ∷ []) [] × (n.shown ≡ Some text))

-- designator and owner
abbrev pub MeansText : Keyword → Bare → List ℕ → Type 0
MeansText k t text = IsFormOf k t (string text ∷ []) []

-- `(true)` or `(false)`
abbrev pub MeansBoolean : Bare → Bool → Type 0
MeansBoolean t true = IsFormOf keywords.True t [] []
MeansBoolean t false = IsFormOf keywords.False t [] []

-- an integer, or `(e mantissa exponent)`, which is kept as a pair
abbrev pub MeansNumber : Bare → design.Num → Type 0
MeansNumber t (numbers.Int z) = t ≡ integer z
MeansNumber t (numbers.Scaled m x) = IsFormOf keywords.E t (integer m ∷ integer x ∷ []) [] × FitsSigned w32 x

-- a value of each kind is a form of its own keyword
abbrev pub MeansValue : Bare → design.Value → Type 0
MeansValue t (values.Boolean b) = (u : Bare) × IsFormOf keywords.Boolean t (u ∷ []) [] × MeansBoolean u b
MeansValue t (values.Integer z) = IsFormOf keywords.Integer t (integer z ∷ []) []
MeansValue t (values.Number n) = (u : Bare) × IsFormOf keywords.Number t (u ∷ []) [] × MeansNumber u n
MeansValue t (values.Text text) = IsFormOf keywords.String t (string text ∷ []) []

-- a property is a key, a value and perhaps an owner
pub record MeansProperty (t : Bare) (p : design.Property) : Type 0 where
  pub key_part : Bare
  pub value_part : Bare
  pub inner : List Bare
  pub form : IsFormOf keywords.Property t (key_part ∷ value_part ∷ []) inner
  pub key : MeansName key_part p.key
  pub value : MeansValue value_part p.value
  pub owner : Perhaps (MeansText keywords.Owner) (those keywords.Owner inner) p.owner

-- the properties among the followers
abbrev pub MeansProperties : List Bare → List design.Property → Type 0
MeansProperties inner ps = Each MeansProperty (those keywords.Property inner) ps

-- a direction's word is read ignoring case
abbrev pub MeansDirection : Bare → design.Direction → Type 0
MeansDirection t d = (w : List ℕ) × IsFormOf keywords.Direction t (word w ∷ []) [] × IsTrue (same w (direction_word d))

-- the name of a port or of a net, or that of an array with its width
abbrev pub MeansBusName : Bare → design.Name → Option ℕ → Type 0
MeansBusName t name None = MeansName t name
MeansBusName t name (Some n) = (u : Bare) × IsFormOf keywords.Array t (u ∷ integer (pos n) ∷ []) [] × MeansName u name × IsWidth n

-- a port is its name, perhaps a direction and a designator, and its properties
pub record MeansPort (t : Bare) (p : design.Port) : Type 0 where
  pub name_part : Bare
  pub inner : List Bare
  pub form : IsFormOf keywords.Port t (name_part ∷ []) inner
  pub name : MeansBusName name_part p.name p.array
  pub direction : Perhaps MeansDirection (those keywords.Direction inner) p.direction
  pub designator : Perhaps (MeansText keywords.Designator) (those keywords.Designator inner) p.designator
  pub properties : MeansProperties inner p.properties

-- an interface is the ports of its cell, and its own properties
pub record MeansInterface (t : Bare) (c : design.CellBody) : Type 0 where
  pub inner : List Bare
  pub form : IsFormOf keywords.Interface t [] inner
  pub ports : Each MeansPort (those keywords.Port inner) c.ports
  pub properties : MeansProperties inner c.interface_properties

-- the library that a reference names, or the one in which it stands
abbrev pub MeansLibraryRef : List design.Lib → Option ℕ → List Bare → ℕ → Type 0
MeansLibraryRef libs own [] l = own ≡ Some l
MeansLibraryRef libs own (t ∷ []) l = (w : List ℕ) × IsFormOf keywords.LibraryRef t (word w ∷ []) [] × (meant (design.lib_ids libs) w ≡ Found l)
MeansLibraryRef libs own (t ∷ u ∷ ts) l = ⊥

-- a cell among those defined before it
pub record MeansCellRef (libs : List design.Lib) (own : Option ℕ) (t : Bare) (id : design.CellId) : Type 0 where
  pub spelled : List ℕ
  pub inner : List Bare
  pub form : IsFormOf keywords.CellRef t (word spelled ∷ []) inner
  pub lib : MeansLibraryRef libs own (those keywords.LibraryRef inner) id.lib.0
  pub cell : meant (design.cell_ids libs id.lib.0) spelled ≡ Found id.slot

-- the one view of a cell
pub record MeansViewRef (libs : List design.Lib) (own : Option ℕ) (t : Bare) (id : design.CellId) : Type 0 where
  pub spelled : List ℕ
  pub cell_part : Bare
  pub form : IsFormOf keywords.ViewRef t (word spelled ∷ cell_part ∷ []) []
  pub cell : MeansCellRef libs own cell_part id
  pub view : meant (design.view_id libs id ∷ []) spelled ≡ Found 0

-- an instance is its name, the cell that it places, perhaps a designator, and its properties
pub record MeansInst (libs : List design.Lib) (own : Option ℕ) (t : Bare) (i : design.Inst) : Type 0 where
  pub name_part : Bare
  pub view_part : Bare
  pub inner : List Bare
  pub form : IsFormOf keywords.Instance t (name_part ∷ view_part ∷ []) inner
  pub name : MeansName name_part i.name
  pub of : MeansViewRef libs own view_part i.of
  pub designator : Perhaps (MeansText keywords.Designator) (those keywords.Designator inner) i.designator
  pub properties : MeansProperties inner i.properties

-- an instance among all of the contents
abbrev pub MeansInstRef : List design.Inst → Bare → ℕ → Type 0
MeansInstRef insts t i = (w : List ℕ) × IsFormOf keywords.InstanceRef t (word w ∷ []) [] × (meant (design.inst_ids insts) w ≡ Found i)

-- the width of the port at a place, 0 where there is none
abbrev pub width_at : List design.Port → ℕ → ℕ
width_at ports i = unwrap_or (option_map design.port_width (slice_get ports i)) 0

-- a port by its name means all its bits, and a member of a port the bit of its number
abbrev pub MeansBits : List design.Port → Bare → ℕ → ℕ → ℕ → Type 0
MeansBits ports t port first width =
    ((w : List ℕ) × (t ≡ word w) × (meant (design.port_ids ports) w ≡ Found port) × (first ≡ 0) × (width ≡ width_at ports port))
    ⊎ ((w : List ℕ) × IsFormOf keywords.Member t (word w ∷ integer (pos first) ∷ []) [] × (meant (design.port_ids ports) w ≡ Found port) × (first < width_at ports port) × (width ≡ 1))

-- an end is a stretch of bits of the cell's own port, or of a port of an instance
pub record MeansEnd (libs : List design.Lib) (ports : List design.Port) (insts : List design.Inst) (t : Bare) (s : Stretch) : Type 0 where
  pub bits_part : Bare
  pub inner : List Bare
  pub form : IsFormOf keywords.PortRef t (bits_part ∷ []) inner
  pub inst : Perhaps (MeansInstRef insts) (those keywords.InstanceRef inner) s.inst
  pub bits : MeansBits (ports_of_end libs ports insts s.inst) bits_part s.port s.first s.width

-- a net is its name, or that of an array, the ends that it joins, each as wide as its row, and its properties
pub record MeansNet (libs : List design.Lib) (ports : List design.Port) (insts : List design.Inst) (t : Bare) (n : NetForm) : Type 0 where
  pub name_part : Bare
  pub joined_part : Bare
  pub refs : List Bare
  pub inner : List Bare
  pub form : IsFormOf keywords.Net t (name_part ∷ joined_part ∷ []) inner
  pub joined : IsFormOf keywords.Joined joined_part [] refs
  pub name : MeansBusName name_part n.name n.array
  pub ends : Each (MeansEnd libs ports insts) refs n.joined
  pub wide : AllByRecursion (λ s. s.width ≡ row_size n.array) n.joined
  pub properties : MeansProperties inner n.properties

-- contents are instances and nets, in any order among each other; each form of a net means the nets of its row
pub record MeansContents (libs : List design.Lib) (own : Option ℕ) (ports : List design.Port) (t : Bare) (c : design.Contents) : Type 0 where
  pub inner : List Bare
  pub form : IsFormOf keywords.Contents t [] inner
  pub insts : Each (MeansInst libs own) (those keywords.Instance inner) c.insts
  pub rows : List NetForm
  pub written : Each (MeansNet libs ports c.insts) (those keywords.Net inner) rows
  pub nets : c.nets ≡ flat_map nets_of rows

-- the view is a netlist
abbrev pub IsNetlist : Bare → Type 0
IsNetlist t = (w : List ℕ) × IsFormOf keywords.ViewType t (word w ∷ []) [] × IsTrue (same w (codes "NETLIST"))

-- a view is its name, its interface, its properties, and its contents where the cell is no leaf
pub record MeansView (libs : List design.Lib) (own : Option ℕ) (t : Bare) (c : design.CellBody) : Type 0 where
  pub name_part : Bare
  pub type_part : Bare
  pub interface_part : Bare
  pub inner : List Bare
  pub form : IsFormOf keywords.View t (name_part ∷ type_part ∷ interface_part ∷ []) inner
  pub name : MeansName name_part c.view
  pub netlist : IsNetlist type_part
  pub interface : MeansInterface interface_part c
  pub contents : Perhaps (MeansContents libs own c.ports) (those keywords.Contents inner) c.contents
  pub properties : MeansProperties inner c.view_properties

-- a cell's type is read ignoring case
abbrev pub MeansKind : Bare → design.CellKind → Type 0
MeansKind t k = (w : List ℕ) × IsFormOf keywords.CellType t (word w ∷ []) [] × IsTrue (same w (kind_word k))

-- a cell is its name, its type, its one view, and its properties
pub record MeansCell (libs : List design.Lib) (own : Option ℕ) (t : Bare) (c : design.CellBody) : Type 0 where
  pub name_part : Bare
  pub kind_part : Bare
  pub inner : List Bare
  pub form : IsFormOf keywords.Cell t (name_part ∷ kind_part ∷ []) inner
  pub name : MeansName name_part c.name
  pub kind : MeansKind kind_part c.kind
  pub view : Just (λ v b. MeansView libs own v b) (those keywords.View inner) c
  pub properties : MeansProperties inner c.properties

-- a level is the number 0
abbrev pub IsLevel : Keyword → Bare → Type 0
IsLevel k t = IsFormOf k t (integer (pos 0) ∷ []) []

-- A library is named from its head on; a cell is defined where its form ends.
pub record MeansLibrary (before : List design.Lib) (t : Bare) (l : design.Lib) : Type 0 where
  pub name_part : Bare
  pub level_part : Bare
  pub technology_part : Bare
  pub inner : List Bare
  pub form : IsFormOf (library_keyword l.head.external) t (name_part ∷ level_part ∷ technology_part ∷ []) inner
  pub name : MeansName name_part l.head.name
  pub level : IsLevel keywords.EdifLevel level_part
  pub cells : EachAfter (λ cells. MeansCell (before ++ record { head = l.head; cells = cells } ∷ []) (Some (length before))) [] (those keywords.Cell inner) l.cells

-- a library, or an external one
abbrev pub is_library : Bare → Bool
is_library t = has_keyword keywords.Library t || has_keyword keywords.External t

-- a note inside a design is known by its first argument
abbrev pub has_mark : Bare → Bool
has_mark (Form' p (More k (More (Word' r n) ts))) = same n (codes "netdb_note")
has_mark _ = false

-- a note is a userData form with the mark of notes
abbrev pub is_note : Bare → Bool
is_note t = has_keyword keywords.UserData t && has_mark t

-- the identifiers of the instances that the steps of a path mean, from a cell on
abbrev pub MeansPath : List design.Lib → design.CellId → List Bare → List (List ℕ) → Type 0
MeansPath libs id [] [] = Unit {0}
MeansPath libs id [] (n ∷ ns) = ⊥
MeansPath libs id (t ∷ ts) [] = ⊥
MeansPath libs id (t ∷ ts) (n ∷ ns) = (w : List ℕ) × (i : ℕ) × (x : design.Inst) × (t ≡ word w)
    × (meant (design.inst_ids (design.insts_at libs id)) w ≡ Found i) × (slice_get (design.insts_at libs id) i ≡ Some x) × (n ≡ x.name.id) × MeansPath libs x.of ts ns

-- a note is exactly a path of at least one step and a property
pub record MeansNote (libs : List design.Lib) (top : design.CellId) (t : Bare) (n : design.Note) : Type 0 where
  pub spelled : List ℕ
  pub mark : List ℕ
  pub path_word : List ℕ
  pub steps : List Bare
  pub property_part : Bare
  pub is : t ≡ form (word spelled ∷ word mark ∷ form (word path_word ∷ steps) ∷ property_part ∷ [])
  pub path_keyword : IsTrue (same path_word (spelling_of keywords.Path))
  pub some_step : 0 < length steps
  pub path : MeansPath libs top steps n.path
  pub property : MeansProperty property_part n.property

-- a design is its name, the top cell, its properties, and the notes
pub record MeansDesign (libs : List design.Lib) (notes : List design.Note) (t : Bare) (d : design.TopHead) : Type 0 where
  pub name_part : Bare
  pub cell_part : Bare
  pub inner : List Bare
  pub form : IsFormOf keywords.Design t (name_part ∷ cell_part ∷ []) inner
  pub name : MeansName name_part d.name
  pub cell : MeansCellRef libs None cell_part d.cell
  pub properties : MeansProperties inner d.properties
  pub noted : Each (MeansNote libs d.cell) (filter is_note inner) notes

-- what stands before the design
abbrev pub before_design : List Bare → List Bare
before_design [] = []
before_design (t ∷ ts) = if has_keyword keywords.Design t then [] else (t ∷ before_design ts)

-- the libraries whose forms stand before the design
abbrev pub libs_before_design : List Bare → List design.Lib → List design.Lib
libs_before_design inner libs = take (length (filter is_library (before_design inner))) libs

-- a file is its title, the libraries in order, the top where there is a design, and the notes; and the design is valid
pub record MeansFile (t : Bare) (d : design.Design) : Type 0 where
  pub name_part : Bare
  pub version_part : Bare
  pub level_part : Bare
  pub map_part : Bare
  pub keyword_level_part : Bare
  pub map_inner : List Bare
  pub inner : List Bare
  pub form : IsFormOf keywords.Edif t (name_part ∷ version_part ∷ level_part ∷ map_part ∷ []) inner
  pub name : MeansName name_part d.title
  pub version : IsFormOf keywords.EdifVersion version_part (integer (pos 2) ∷ integer (pos 0) ∷ integer (pos 0) ∷ []) []
  pub level : IsLevel keywords.EdifLevel level_part
  pub keyword_map : IsFormOf keywords.KeywordMap map_part (keyword_level_part ∷ []) map_inner
  pub keyword_level : IsLevel keywords.KeywordLevel keyword_level_part
  pub libs : EachAfter MeansLibrary [] (filter is_library inner) d.libs
  pub top : Perhaps (MeansDesign (libs_before_design inner d.libs) d.notes) (those keywords.Design inner) d.top
  pub valid : IsValid d
