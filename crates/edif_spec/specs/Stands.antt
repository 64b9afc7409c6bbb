-- Which faults stand in a tree: a definition for each row of the table of forms, beside what the row means. A reference is judged
-- by what the forms before it mean.
use Rattle.std.specs.Prelude.{◌≡◌, ◌≢◌, ℕ, ◌<◌, ◌⊎◌, pos, ℤ, FitsSigned, List, [], ◌∷◌, ◌++◌, map, length, filter, drop, Bool, true, false, ◌||◌, Option, Some, None, IsTrue, slice_get, codes, if◌then◌else◌}
use Rattle.std.specs.Int.{w32}
use Rattle.std.specs.List.{flat_map}
use Rattle.edif_spelling_spec.specs.Tree.{Bare, Placed, Word', Integer', bare, word}
use Rattle.netlist_schema.specs.Width.{IsWidth}
use Rattle.netlist_schema.specs.declared.limits.TheConstants.{MOST_LIBS, MOST_CELLS, MOST_PORTS, MOST_BITS, MOST_INSTS, MOST_NETS, MOST_ENDS, MOST_NOTES}
use Rattle.edif_spec.specs.Keyword.{same, identifier, the, Choice, FormRow, Takes}
use Rattle.edif_spec.specs.Rows.{has_keyword, Each, EachAfter, Perhaps}
use Rattle.edif_spec.specs.Canonical.{ports_of_end}
use Rattle.edif_spec.specs.Means.{meant, Found, Absent, Several, width_at, is_library, is_note, MeansName, MeansPort, MeansLibraryRef, MeansCellRef, MeansBusName, MeansInst, MeansInstRef, MeansEnd, MeansCell, MeansLibrary, MeansPath}
use Rattle.edif_spec.specs.Faults.{AtTwo, place_of, arguments, followers, parts, Among, InPart, InForm, misplaced, FixedFault, FollowerFault, RowFault, declared_width, defined, repeated, Repeats, SameOfTwo, Beyond, BeyondBits}
use Rattle.edif_spec.specs.Design as design
use Rattle.edif_spec.specs.Nets.{Stretch, end_of, row_size}
use Rattle.netlist_bus_spec.specs.Members.{member_id, numbered}
use Rattle.edif_spec.specs.declared.keyword.Keyword.{Keyword}
use Rattle.edif_spec.specs.declared.keyword.Keyword.TheVariants as keywords
use Rattle.edif_spec.specs.declared.fault.Kind.{Kind}
use Rattle.edif_spec.specs.declared.fault.Kind.TheVariants.{BadForm, BadVersion, BadLevel, NotNetlist, Unresolved, Ambiguous, BadIndex, WholeArray, BadWidth, BadPath}
use Rattle.edif_spec.specs.declared.fault.ClashKind.TheVariants.{Duplicate, EndTwice}
use Rattle.edif_spec.specs.declared.fault.MeaningFault.{MeaningFault}
use Rattle.edif_spec.specs.declared.fault.MeaningFault.TheVariants.{At, Clash}

-- a word that is none of those that its form has
abbrev pub WordFault : (List ℕ → Bool) → Kind → Placed → MeaningFault → Type 0
WordFault fine kind u f = (w : List ℕ) × (p : ℕ) × (u ≡ Word' p w) × (fine w ≡ false) × (f ≡ At kind p)

-- an integer other than the wanted one
abbrev pub ValueFault : ℤ → Kind → Placed → MeaningFault → Type 0
ValueFault wanted kind u f = (z : ℤ) × (p : ℕ) × (u ≡ Integer' p z) × (z ≢ wanted) × (f ≡ At kind p)

-- a reference that means no definition of its scope, or several, at its identifier
abbrev pub Dangles : List (List ℕ) → Placed → MeaningFault → Type 0
Dangles scope u f = (w : List ℕ) × (p : ℕ) × (u ≡ Word' p w)
    × (((meant scope w ≡ Absent) × (f ≡ At Unresolved p)) ⊎ ((meant scope w ≡ Several) × (f ≡ At Ambiguous p)))

-- a rename that breaches its row
abbrev pub NameFault : Placed → MeaningFault → Type 0
NameFault t f = IsTrue (has_keyword keywords.Rename (bare t)) × RowFault keywords.Rename t f

-- an exponent beyond 32 bits
abbrev pub ExponentFault : Placed → MeaningFault → Type 0
ExponentFault u f = (z : ℤ) × (p : ℕ) × (u ≡ Integer' p z) × (¬ FitsSigned w32 z) × (f ≡ At BadForm p)

-- in a truth value: its row
pub data BooleanFault (t : Placed) (f : MeaningFault) : Type 0 where
  true_row : IsTrue (has_keyword keywords.True (bare t)) → RowFault keywords.True t f → BooleanFault t f
  false_row : IsTrue (has_keyword keywords.False (bare t)) → RowFault keywords.False t f → BooleanFault t f

-- in a mantissa with an exponent: its row, its exponent
pub data NumberFault (t : Placed) (f : MeaningFault) : Type 0 where
  scaled_row : IsTrue (has_keyword keywords.E (bare t)) → RowFault keywords.E t f → NumberFault t f
  scaled_exponent : IsTrue (has_keyword keywords.E (bare t)) → InPart 1 ExponentFault t f → NumberFault t f

-- in a value, by its keyword
pub data InValue (t : Placed) (f : MeaningFault) : Type 0 where
  boolean_row : IsTrue (has_keyword keywords.Boolean (bare t)) → RowFault keywords.Boolean t f → InValue t f
  boolean_truth : IsTrue (has_keyword keywords.Boolean (bare t)) → InPart 0 BooleanFault t f → InValue t f
  integer_row : IsTrue (has_keyword keywords.Integer (bare t)) → RowFault keywords.Integer t f → InValue t f
  number_row : IsTrue (has_keyword keywords.Number (bare t)) → RowFault keywords.Number t f → InValue t f
  number_scaled : IsTrue (has_keyword keywords.Number (bare t)) → InPart 0 NumberFault t f → InValue t f
  string_row : IsTrue (has_keyword keywords.String (bare t)) → RowFault keywords.String t f → InValue t f

-- in a property: its row, its key, its value, its owner
pub data PropertyFault (t : Placed) (f : MeaningFault) : Type 0 where
  property_row : RowFault keywords.Property t f → PropertyFault t f
  property_key : InPart 0 NameFault t f → PropertyFault t f
  property_value : InPart 1 InValue t f → PropertyFault t f
  property_owner : Among (RowFault keywords.Owner) (parts keywords.Property keywords.Owner t) f → PropertyFault t f

-- in the properties of an owner: in one of them, or a key that repeats
pub data PropertiesFault (ts : List Placed) (f : MeaningFault) : Type 0 where
  one_property : Among PropertyFault ts f → PropertiesFault ts f
  key_again : Repeats ts f → PropertiesFault ts f

-- the word of a direction, ignoring case
abbrev pub is_direction : List ℕ → Bool
is_direction w = same w (codes "INPUT") || (same w (codes "OUTPUT") || same w (codes "INOUT"))

-- in a direction: its row, or another word
pub data DirectionFault (t : Placed) (f : MeaningFault) : Type 0 where
  direction_row : RowFault keywords.Direction t f → DirectionFault t f
  other_direction : InPart 0 (WordFault is_direction BadForm) t f → DirectionFault t f

-- a size that is not from 1 to 65,536
abbrev pub SizeFault : Placed → MeaningFault → Type 0
SizeFault u f = (z : ℤ) × (p : ℕ) × (u ≡ Integer' p z) × ((n : ℕ) → z ≡ pos n → IsWidth n → ⊥) × (f ≡ At BadIndex p)

-- in the name of a port or of a net, or in its array
pub data BusNameFault (t : Placed) (f : MeaningFault) : Type 0 where
  scalar_name : NameFault t f → BusNameFault t f
  array_row : IsTrue (has_keyword keywords.Array (bare t)) → RowFault keywords.Array t f → BusNameFault t f
  array_name : IsTrue (has_keyword keywords.Array (bare t)) → InPart 0 NameFault t f → BusNameFault t f
  array_size : IsTrue (has_keyword keywords.Array (bare t)) → InPart 1 SizeFault t f → BusNameFault t f

-- in a port: its row, its name, its direction, its designator, its properties
pub data PortFault (t : Placed) (f : MeaningFault) : Type 0 where
  port_row : RowFault keywords.Port t f → PortFault t f
  port_name : InPart 0 BusNameFault t f → PortFault t f
  port_direction : Among DirectionFault (parts keywords.Port keywords.Direction t) f → PortFault t f
  port_designator : Among (RowFault keywords.Designator) (parts keywords.Port keywords.Designator t) f → PortFault t f
  port_properties : PropertiesFault (parts keywords.Port keywords.Property t) f → PortFault t f

-- the ports of an interface
abbrev pub ports_in : Placed → List Placed
ports_in t = parts keywords.Interface keywords.Port t

-- in an interface: its row, its ports, a port's name that repeats, more ports or bits than allowed, its properties
pub data InterfaceFault (t : Placed) (f : MeaningFault) : Type 0 where
  interface_row : RowFault keywords.Interface t f → InterfaceFault t f
  interface_port : Among PortFault (ports_in t) f → InterfaceFault t f
  port_again : Repeats (ports_in t) f → InterfaceFault t f
  many_ports : Beyond MOST_PORTS (ports_in t) f → InterfaceFault t f
  many_bits : BeyondBits MOST_BITS 0 (ports_in t) f → InterfaceFault t f
  interface_properties : PropertiesFault (parts keywords.Interface keywords.Property t) f → InterfaceFault t f

-- in a reference to a library
pub data LibraryRefFault (libs : List design.Lib) (t : Placed) (f : MeaningFault) : Type 0 where
  library_ref_row : RowFault keywords.LibraryRef t f → LibraryRefFault libs t f
  library_ref_name : InPart 0 (Dangles (design.lib_ids libs)) t f → LibraryRefFault libs t f

-- In a reference to a cell: its row; its library; the cell's name among the cells of the library that is meant; and no library
-- where there is none in which the reference stands.
pub data CellRefFault (libs : List design.Lib) (own : Option ℕ) (t : Placed) (f : MeaningFault) : Type 0 where
  cell_ref_row : RowFault keywords.CellRef t f → CellRefFault libs own t f
  cell_ref_library : Among (LibraryRefFault libs) (parts keywords.CellRef keywords.LibraryRef t) f → CellRefFault libs own t f
  cell_ref_name : (l : ℕ) → MeansLibraryRef libs own (map bare (parts keywords.CellRef keywords.LibraryRef t)) l → InPart 0 (Dangles (design.cell_ids libs l)) t f → CellRefFault libs own t f
  cell_ref_alone : own ≡ None → parts keywords.CellRef keywords.LibraryRef t ≡ [] → f ≡ At BadForm (place_of t) → CellRefFault libs own t f

-- in a reference to the view of a cell: its row, its cell, the name of the view of the cell that is meant
pub data ViewRefFault (libs : List design.Lib) (own : Option ℕ) (t : Placed) (f : MeaningFault) : Type 0 where
  view_ref_row : RowFault keywords.ViewRef t f → ViewRefFault libs own t f
  view_ref_cell : InForm 1 keywords.CellRef (CellRefFault libs own) t f → ViewRefFault libs own t f
  view_ref_name : (u : Placed) (id : design.CellId) → slice_get (arguments t) 1 ≡ Some u → MeansCellRef libs own (bare u) id → InPart 0 (Dangles (design.view_id libs id ∷ [])) t f → ViewRefFault libs own t f

-- in an instance: its row, its name, its cell, its designator, its properties
pub data InstFault (libs : List design.Lib) (own : Option ℕ) (t : Placed) (f : MeaningFault) : Type 0 where
  inst_row : RowFault keywords.Instance t f → InstFault libs own t f
  inst_name : InPart 0 NameFault t f → InstFault libs own t f
  inst_view : InForm 1 keywords.ViewRef (ViewRefFault libs own) t f → InstFault libs own t f
  inst_designator : Among (RowFault keywords.Designator) (parts keywords.Instance keywords.Designator t) f → InstFault libs own t f
  inst_properties : PropertiesFault (parts keywords.Instance keywords.Property t) f → InstFault libs own t f

-- in a reference to an instance of the same contents
pub data InstRefFault (insts : List design.Inst) (t : Placed) (f : MeaningFault) : Type 0 where
  inst_ref_row : RowFault keywords.InstanceRef t f → InstRefFault insts t f
  inst_ref_name : InPart 0 (Dangles (design.inst_ids insts)) t f → InstRefFault insts t f

-- an index that the port does not have: below 0, or not below its width
pub record IndexFault (ports : List design.Port) (t : Placed) (f : MeaningFault) : Type 0 where
  pub spelled : List ℕ
  pub named : ℕ
  pub port : ℕ
  pub index : ℤ
  pub place : ℕ
  pub name_there : slice_get (arguments t) 0 ≡ Some (Word' named spelled)
  pub means : meant (design.port_ids ports) spelled ≡ Found port
  pub index_there : slice_get (arguments t) 1 ≡ Some (Integer' place index)
  pub beyond : (n : ℕ) → index ≡ pos n → n < width_at ports port → ⊥
  pub fault : f ≡ At BadIndex place

-- in what names bits among these ports: a port, or a member of one
pub data BitFault (ports : List design.Port) (t : Placed) (f : MeaningFault) : Type 0 where
  bit_port : Dangles (design.port_ids ports) t f → BitFault ports t f
  member_row : IsTrue (has_keyword keywords.Member (bare t)) → RowFault keywords.Member t f → BitFault ports t f
  member_port : IsTrue (has_keyword keywords.Member (bare t)) → InPart 0 (Dangles (design.port_ids ports)) t f → BitFault ports t f
  member_index : IsTrue (has_keyword keywords.Member (bare t)) → IndexFault ports t f → BitFault ports t f

-- in an end: its row, its instance, and its bits among the ports of the cell or of the instance that is meant
pub data EndFault (libs : List design.Lib) (ports : List design.Port) (insts : List design.Inst) (t : Placed) (f : MeaningFault) : Type 0 where
  end_row : RowFault keywords.PortRef t f → EndFault libs ports insts t f
  end_inst : Among (InstRefFault insts) (parts keywords.PortRef keywords.InstanceRef t) f → EndFault libs ports insts t f
  end_bit : (o : Option ℕ) → Perhaps (MeansInstRef insts) (map bare (parts keywords.PortRef keywords.InstanceRef t)) o → InPart 0 (BitFault (ports_of_end libs ports insts o)) t f → EndFault libs ports insts t f

-- in what a net joins: its row, and its ends
pub data JoinedFault (libs : List design.Lib) (ports : List design.Port) (insts : List design.Inst) (t : Placed) (f : MeaningFault) : Type 0 where
  joined_row : RowFault keywords.Joined t f → JoinedFault libs ports insts t f
  joined_end : Among (EndFault libs ports insts) (parts keywords.Joined keywords.PortRef t) f → JoinedFault libs ports insts t f

-- the ends of what a net joins, none where it is no form of that keyword
abbrev pub ends_joined : Option Placed → List Placed
ends_joined None = []
ends_joined (Some u) = if has_keyword keywords.Joined (bare u) then parts keywords.Joined keywords.PortRef u else []

-- the ends of a net
abbrev pub ends_in : Placed → List Placed
ends_in t = ends_joined (slice_get (arguments t) 1)

-- what an end of another width than its net is: a whole array where one bit is wanted, or a bad width in a net with an array
abbrev pub width_kind : Option ℕ → Kind
width_kind None = WholeArray
width_kind (Some n) = BadWidth

-- An end of another width than the net, at what names its bits: the identifier of a port, or the `(` of a member.
pub record WidthFault (libs : List design.Lib) (ports : List design.Port) (insts : List design.Inst) (array : Option ℕ) (t : Placed) (f : MeaningFault) : Type 0 where
  pub bits : Placed
  pub there : slice_get (arguments t) 0 ≡ Some bits
  pub stretch : Stretch
  pub means : MeansEnd libs ports insts (bare t) stretch
  pub other : stretch.width ≢ row_size array
  pub fault : f ≡ At (width_kind array) (place_of bits)

-- in a net whose name is meant, an end of another width
pub record NetWidthFault (libs : List design.Lib) (ports : List design.Port) (insts : List design.Inst) (t : Placed) (f : MeaningFault) : Type 0 where
  pub name_part : Placed
  pub name : design.Name
  pub array : Option ℕ
  pub there : slice_get (arguments t) 0 ≡ Some name_part
  pub means : MeansBusName (bare name_part) name array
  pub fault : Among (WidthFault libs ports insts array) (ends_in t) f

-- in a net: its row, its name, what it joins, the width of an end, its properties
pub data NetFault (libs : List design.Lib) (ports : List design.Port) (insts : List design.Inst) (t : Placed) (f : MeaningFault) : Type 0 where
  net_row : RowFault keywords.Net t f → NetFault libs ports insts t f
  net_name : InPart 0 BusNameFault t f → NetFault libs ports insts t f
  net_joined : InForm 1 keywords.Joined (JoinedFault libs ports insts) t f → NetFault libs ports insts t f
  net_width : NetWidthFault libs ports insts t f → NetFault libs ports insts t f
  net_properties : PropertiesFault (parts keywords.Net keywords.Property t) f → NetFault libs ports insts t f

-- in a member, the shape alone
abbrev pub MemberShapeFault : Placed → MeaningFault → Type 0
MemberShapeFault t f = IsTrue (has_keyword keywords.Member (bare t)) × RowFault keywords.Member t f

-- in an end, the shape alone: its row, that of its instance, that of its member
pub data EndShapeFault (t : Placed) (f : MeaningFault) : Type 0 where
  end_shape_row : RowFault keywords.PortRef t f → EndShapeFault t f
  end_shape_inst : Among (RowFault keywords.InstanceRef) (parts keywords.PortRef keywords.InstanceRef t) f → EndShapeFault t f
  end_shape_member : InPart 0 MemberShapeFault t f → EndShapeFault t f

-- in what a net joins, the shape alone: its row, that of each end
pub data JoinedShapeFault (t : Placed) (f : MeaningFault) : Type 0 where
  joined_shape_row : RowFault keywords.Joined t f → JoinedShapeFault t f
  joined_shape_end : Among EndShapeFault (parts keywords.Joined keywords.PortRef t) f → JoinedShapeFault t f

-- in a net, whatever its ends mean: its row, its name, the shape of what it joins, its properties
pub data NetShapeFault (t : Placed) (f : MeaningFault) : Type 0 where
  net_shape_row : RowFault keywords.Net t f → NetShapeFault t f
  net_shape_name : InPart 0 BusNameFault t f → NetShapeFault t f
  net_shape_joined : InForm 1 keywords.Joined JoinedShapeFault t f → NetShapeFault t f
  net_shape_properties : PropertiesFault (parts keywords.Net keywords.Property t) f → NetShapeFault t f

-- the instances of contents
abbrev pub insts_in : Placed → List Placed
insts_in t = parts keywords.Contents keywords.Instance t

-- the nets of contents
abbrev pub nets_in : Placed → List Placed
nets_in t = parts keywords.Contents keywords.Net t

-- whether the name of a net is that of an array
abbrev pub is_arrayed : Option Placed → Bool
is_arrayed None = false
is_arrayed (Some u) = has_keyword keywords.Array (bare u)

-- the name of a member of an array, at the array's identifier
abbrev pub member_at : List ℕ × ℕ → ℕ → List ℕ × ℕ
member_at name k = (member_id name.0 k, name.1)

-- the names of so many nets: those of the members of an array, or one by itself
abbrev pub names_from : Bool → ℕ → Option (List ℕ × ℕ) → List (List ℕ × ℕ)
names_from array size None = []
names_from false size (Some name) = name ∷ []
names_from true size (Some name) = numbered (member_at name) 0 size

-- the names that a form of a net defines, and their places
abbrev pub net_names_in : Placed → List (List ℕ × ℕ)
net_names_in t = names_from (is_arrayed (slice_get (arguments t) 0)) (declared_width t) (defined t)

-- the ends of the row of a net, net by net: each form with the number of its net and how many nets are in the row
abbrev pub row_ends : Placed → List (Placed × ℕ × ℕ)
row_ends t = flat_map (λ k. map (λ u. (u, k, declared_width t)) (ends_in t)) (numbered (λ k. k) 0 (declared_width t))

-- in a row of this size, an end that is as wide means this bit in the net of this number
abbrev pub MeansRowEnd : List design.Lib → List design.Port → List design.Inst → Placed × ℕ × ℕ → design.End → Type 0
MeansRowEnd libs ports insts u e = (s : Stretch) × MeansEnd libs ports insts (bare u.0) s × (s.width ≡ u.2) × (e ≡ end_of u.1 s)

-- Two ends that mean the same bit, at both. In the row of an array of several nets each end is a whole port, so that two of them
-- mean one bit in one net alone.
abbrev pub SameEnd : List design.Lib → List design.Port → List design.Inst → MeaningFault → Placed × ℕ × ℕ → Placed × ℕ × ℕ → Type 0
SameEnd libs ports insts f a b = (e : design.End) × MeansRowEnd libs ports insts a e × MeansRowEnd libs ports insts b e × (f ≡ Clash EndTwice (place_of b.0) (place_of a.0))

-- the ends of a net, each as often as there are nets in the row
abbrev pub counted_ends : Placed → List Placed
counted_ends t = repeated (λ u. declared_width t) (ends_in t)

-- where the instances are meant: in a net, or an end that is joined twice
pub data NetsFault (libs : List design.Lib) (own : Option ℕ) (ports : List design.Port) (t : Placed) (f : MeaningFault) : Type 0 where
  one_net : (insts : List design.Inst) → Each (MeansInst libs own) (map bare (insts_in t)) insts → Among (NetFault libs ports insts) (nets_in t) f → NetsFault libs own ports t f
  end_again : (insts : List design.Inst) → Each (MeansInst libs own) (map bare (insts_in t)) insts → AtTwo (SameEnd libs ports insts f) (flat_map row_ends (nets_in t)) → NetsFault libs own ports t f

-- In contents: its row; its instances; the shape of its nets; its nets and their ends, where the instances are meant; a name of
-- an instance or of a net that repeats; more instances, nets or ends than allowed, where a net and its ends count as often as
-- there are nets in its row.
pub data ContentsFault (libs : List design.Lib) (own : Option ℕ) (ports : List design.Port) (t : Placed) (f : MeaningFault) : Type 0 where
  contents_row : RowFault keywords.Contents t f → ContentsFault libs own ports t f
  contents_inst : Among (InstFault libs own) (insts_in t) f → ContentsFault libs own ports t f
  contents_net_shape : Among NetShapeFault (nets_in t) f → ContentsFault libs own ports t f
  contents_nets : NetsFault libs own ports t f → ContentsFault libs own ports t f
  inst_again : Repeats (insts_in t) f → ContentsFault libs own ports t f
  net_again : AtTwo (SameOfTwo f) (flat_map net_names_in (nets_in t)) → ContentsFault libs own ports t f
  many_insts : Beyond MOST_INSTS (insts_in t) f → ContentsFault libs own ports t f
  many_nets : Beyond MOST_NETS (repeated declared_width (nets_in t)) f → ContentsFault libs own ports t f
  many_ends : Beyond MOST_ENDS (flat_map counted_ends (nets_in t)) f → ContentsFault libs own ports t f

-- the word of the one type of view, ignoring case
abbrev pub is_netlist : List ℕ → Bool
is_netlist w = same w (codes "NETLIST")

-- in the type of a view: its row, or another word
pub data TypeFault (t : Placed) (f : MeaningFault) : Type 0 where
  view_type_row : RowFault keywords.ViewType t f → TypeFault t f
  other_view_type : InPart 0 (WordFault is_netlist NotNetlist) t f → TypeFault t f

-- in the contents of a view whose interface means these ports
pub record InContents (libs : List design.Lib) (own : Option ℕ) (t : Placed) (f : MeaningFault) : Type 0 where
  pub interface : Placed
  pub ports : List design.Port
  pub there : slice_get (arguments t) 2 ≡ Some interface
  pub is_interface : IsTrue (has_keyword keywords.Interface (bare interface))
  pub means : Each MeansPort (map bare (ports_in interface)) ports
  pub fault : Among (ContentsFault libs own ports) (parts keywords.View keywords.Contents t) f

-- in a view: its row, its name, its type, its interface, its contents, its properties
pub data ViewFault (libs : List design.Lib) (own : Option ℕ) (t : Placed) (f : MeaningFault) : Type 0 where
  view_row : RowFault keywords.View t f → ViewFault libs own t f
  view_name : InPart 0 NameFault t f → ViewFault libs own t f
  view_type : InForm 1 keywords.ViewType TypeFault t f → ViewFault libs own t f
  view_interface : InForm 2 keywords.Interface InterfaceFault t f → ViewFault libs own t f
  view_contents : InContents libs own t f → ViewFault libs own t f
  view_properties : PropertiesFault (parts keywords.View keywords.Property t) f → ViewFault libs own t f

-- the word of a kind of cell, ignoring case
abbrev pub is_cell_type : List ℕ → Bool
is_cell_type w = same w (codes "GENERIC") || (same w (codes "TIE") || same w (codes "RIPPER"))

-- in the type of a cell: its row, or another word
pub data CellTypeFault (t : Placed) (f : MeaningFault) : Type 0 where
  cell_type_row : RowFault keywords.CellType t f → CellTypeFault t f
  other_cell_type : InPart 0 (WordFault is_cell_type BadForm) t f → CellTypeFault t f

-- in a cell: its row, its name, its type, its view, no view at all, its properties
pub data CellFault (libs : List design.Lib) (own : Option ℕ) (t : Placed) (f : MeaningFault) : Type 0 where
  cell_row : RowFault keywords.Cell t f → CellFault libs own t f
  cell_name : InPart 0 NameFault t f → CellFault libs own t f
  cell_type : InForm 1 keywords.CellType CellTypeFault t f → CellFault libs own t f
  cell_view : Among (ViewFault libs own) (parts keywords.Cell keywords.View t) f → CellFault libs own t f
  without_view : parts keywords.Cell keywords.View t ≡ [] → f ≡ At BadForm (place_of t) → CellFault libs own t f
  cell_properties : PropertiesFault (parts keywords.Cell keywords.Property t) f → CellFault libs own t f

-- in a level: its row, or another number than 0
pub data LevelFault (k : Keyword) (t : Placed) (f : MeaningFault) : Type 0 where
  level_row : RowFault k t f → LevelFault k t f
  other_level : InPart 0 (ValueFault (pos 0) BadLevel) t f → LevelFault k t f

-- in the first of these that is faulty, where the values before it are meant
abbrev pub AmongAfter : {A : Type 0} → (List A → Bare → A → Type 0) → (List A → Placed → MeaningFault → Type 0) → List A → List Placed → MeaningFault → Type 0
AmongAfter means F before [] f = ⊥
AmongAfter {A} means F before (t ∷ ts) f = F before t f ⊎ ((x : A) × means before (bare t) x × AmongAfter means F (before ++ x ∷ []) ts f)

-- the cells of a library
abbrev pub cells_in : Placed → List Placed
cells_in t = parts keywords.Library keywords.Cell t

-- in a cell of a library, where the library's name and the cells before it are meant
pub record CellsFault (before : List design.Lib) (t : Placed) (f : MeaningFault) : Type 0 where
  pub name_part : Placed
  pub head : design.LibHead
  pub there : slice_get (arguments t) 0 ≡ Some name_part
  pub name : MeansName (bare name_part) head.name
  pub external : head.external ≡ has_keyword keywords.External (bare t)
  pub fault : AmongAfter (λ cells. MeansCell (before ++ record { head = head; cells = cells } ∷ []) (Some (length before))) (λ cells. CellFault (before ++ record { head = head; cells = cells } ∷ []) (Some (length before))) [] (cells_in t) f

-- in a library: its row, its name, its level, its cells, a cell's name that repeats, more cells than allowed
pub data LibraryFault (before : List design.Lib) (t : Placed) (f : MeaningFault) : Type 0 where
  library_row : IsTrue (has_keyword keywords.Library (bare t)) → RowFault keywords.Library t f → LibraryFault before t f
  external_row : IsTrue (has_keyword keywords.External (bare t)) → RowFault keywords.External t f → LibraryFault before t f
  library_name : InPart 0 NameFault t f → LibraryFault before t f
  library_level : InForm 1 keywords.EdifLevel (LevelFault keywords.EdifLevel) t f → LibraryFault before t f
  library_cells : CellsFault before t f → LibraryFault before t f
  cell_again : Repeats (cells_in t) f → LibraryFault before t f
  many_cells : Beyond MOST_CELLS (cells_in t) f → LibraryFault before t f

-- inside a note every breach of its shape is a bad form
abbrev pub bad_form : Placed → MeaningFault
bad_form u = At BadForm (place_of u)

-- a note is exactly its mark, a path and a property
abbrev pub note_parts : List (List Choice)
note_parts = identifier ∷ the keywords.Path ∷ the keywords.Property ∷ []

-- a step that means an instance of a cell
pub record StepsTo (libs : List design.Lib) (id : design.CellId) (t : Placed) (x : design.Inst) : Type 0 where
  pub spelled : List ℕ
  pub place : ℕ
  pub at : ℕ
  pub is : t ≡ Word' place spelled
  pub means : meant (design.inst_ids (design.insts_at libs id)) spelled ≡ Found at
  pub there : slice_get (design.insts_at libs id) at ≡ Some x

-- a step that means no instance of a cell, or several
pub record LosesStep (libs : List design.Lib) (id : design.CellId) (t : Placed) (f : MeaningFault) : Type 0 where
  pub spelled : List ℕ
  pub place : ℕ
  pub is : t ≡ Word' place spelled
  pub lost : (i : ℕ) → meant (design.inst_ids (design.insts_at libs id)) spelled ≡ Found i → ⊥
  pub fault : f ≡ At BadPath place

-- at a step from a cell: it is no identifier, it means no instance or several, or the fault is at a later step, from the cell of
-- the instance that it means
pub data StepFault (libs : List design.Lib) (id : design.CellId) (later : design.CellId → Type 0) (t : Placed) (f : MeaningFault) : Type 0 where
  no_step : ((w : List ℕ) → bare t ≡ word w → ⊥) → f ≡ At BadForm (place_of t) → StepFault libs id later t f
  lost_step : LosesStep libs id t f → StepFault libs id later t f
  later_step : (x : design.Inst) → StepsTo libs id t x → later x.of → StepFault libs id later t f

-- in the steps of a path, from a cell on
abbrev pub StepsFault : List design.Lib → design.CellId → List Placed → MeaningFault → Type 0
StepsFault libs id [] f = ⊥
StepsFault libs id (t ∷ ts) f = StepFault libs id (λ i. StepsFault libs i ts f) t f

-- in a path: no step, or a bad one
pub data PathFault (libs : List design.Lib) (top : design.CellId) (t : Placed) (f : MeaningFault) : Type 0 where
  no_steps : arguments t ≡ [] → f ≡ At BadPath (place_of t) → PathFault libs top t f
  bad_step : StepsFault libs top (arguments t) f → PathFault libs top t f

-- in a note: its shape, its path, its property
pub data NoteFault (libs : List design.Lib) (top : design.CellId) (t : Placed) (f : MeaningFault) : Type 0 where
  note_part : FixedFault bad_form (place_of t) note_parts (arguments t) f → NoteFault libs top t f
  note_surplus : FollowerFault bad_form [] (drop 3 (arguments t)) f → NoteFault libs top t f
  note_path : InForm 1 keywords.Path (PathFault libs top) t f → NoteFault libs top t f
  note_property : InForm 2 keywords.Property PropertyFault t f → NoteFault libs top t f

-- a note with a path of these instances and a property of this key, which stands at a place
pub record Notes (libs : List design.Lib) (top : design.CellId) (t : Placed) (steps : List (List ℕ)) (key : List ℕ) (place : ℕ) : Type 0 where
  pub path : Placed
  pub path_there : slice_get (arguments t) 1 ≡ Some path
  pub is_path : IsTrue (has_keyword keywords.Path (bare path))
  pub means : MeansPath libs top (map bare (arguments path)) steps
  pub property : Placed
  pub property_there : slice_get (arguments t) 2 ≡ Some property
  pub is_property : IsTrue (has_keyword keywords.Property (bare property))
  pub key_there : defined property ≡ Some (key, place)

-- two notes of one path and key, at the identifiers of their keys
pub record SameNote (libs : List design.Lib) (top : design.CellId) (f : MeaningFault) (a b : Placed) : Type 0 where
  pub steps : List (List ℕ)
  pub key : List ℕ
  pub earlier : ℕ
  pub place : ℕ
  pub first : Notes libs top a steps key earlier
  pub second : Notes libs top b steps key place
  pub fault : f ≡ Clash Duplicate place earlier

-- the cell that a design names is meant
abbrev pub MeansTop : List design.Lib → Placed → design.CellId → Type 0
MeansTop libs t top = (u : Placed) × (slice_get (arguments t) 1 ≡ Some u) × MeansCellRef libs None (bare u) top

-- the notes of a design
abbrev pub notes_in : Placed → List Placed
notes_in t = filter (λ u. is_note (bare u)) (followers keywords.Design t)

-- where the top cell is meant: in a note, or two notes of one path and key
pub data NotesFault (libs : List design.Lib) (t : Placed) (f : MeaningFault) : Type 0 where
  one_note : (top : design.CellId) → MeansTop libs t top → Among (NoteFault libs top) (notes_in t) f → NotesFault libs t f
  note_again : (top : design.CellId) → MeansTop libs t top → AtTwo (SameNote libs top f) (notes_in t) → NotesFault libs t f

-- in a design: its row, its name, its cell, its properties, its notes, more notes than allowed
pub data DesignFault (libs : List design.Lib) (t : Placed) (f : MeaningFault) : Type 0 where
  design_row : RowFault keywords.Design t f → DesignFault libs t f
  design_name : InPart 0 NameFault t f → DesignFault libs t f
  design_cell : InForm 1 keywords.CellRef (CellRefFault libs None) t f → DesignFault libs t f
  design_properties : PropertiesFault (parts keywords.Design keywords.Property t) f → DesignFault libs t f
  design_notes : NotesFault libs t f → DesignFault libs t f
  many_notes : Beyond MOST_NOTES (notes_in t) f → DesignFault libs t f

-- in the version: its row, or other numbers than 2 0 0
pub data VersionFault (t : Placed) (f : MeaningFault) : Type 0 where
  version_row : RowFault keywords.EdifVersion t f → VersionFault t f
  first_number : InPart 0 (ValueFault (pos 2) BadVersion) t f → VersionFault t f
  second_number : InPart 1 (ValueFault (pos 0) BadVersion) t f → VersionFault t f
  third_number : InPart 2 (ValueFault (pos 0) BadVersion) t f → VersionFault t f

-- in the keyword map: its row, its level
pub data MapFault (t : Placed) (f : MeaningFault) : Type 0 where
  map_row : RowFault keywords.KeywordMap t f → MapFault t f
  map_level : InForm 0 keywords.KeywordLevel (LevelFault keywords.KeywordLevel) t f → MapFault t f

-- what stands before the design
abbrev pub before_the_design : List Placed → List Placed
before_the_design [] = []
before_the_design (t ∷ ts) = if has_keyword keywords.Design (bare t) then [] else (t ∷ before_the_design ts)

-- the libraries among these forms
abbrev pub libraries : List Placed → List Placed
libraries ts = filter (λ u. is_library (bare u)) ts

-- in the first design, where the libraries before it are meant
pub record InDesign (t : Placed) (f : MeaningFault) : Type 0 where
  pub libs : List design.Lib
  pub means : EachAfter MeansLibrary [] (map bare (libraries (before_the_design (followers keywords.Edif t)))) libs
  pub first : Placed
  pub there : slice_get (parts keywords.Edif keywords.Design t) 0 ≡ Some first
  pub fault : DesignFault libs first f

-- In the form of a file: its row, its name, its version, its levels, its libraries, a library's name that repeats, more libraries
-- than allowed, its design.
pub data FileFault (t : Placed) (f : MeaningFault) : Type 0 where
  edif_row : RowFault keywords.Edif t f → FileFault t f
  edif_name : InPart 0 NameFault t f → FileFault t f
  edif_version : InForm 1 keywords.EdifVersion VersionFault t f → FileFault t f
  edif_level : InForm 2 keywords.EdifLevel (LevelFault keywords.EdifLevel) t f → FileFault t f
  edif_map : InForm 3 keywords.KeywordMap MapFault t f → FileFault t f
  edif_library : AmongAfter MeansLibrary LibraryFault [] (libraries (followers keywords.Edif t)) f → FileFault t f
  library_again : Repeats (libraries (followers keywords.Edif t)) f → FileFault t f
  many_libraries : Beyond MOST_LIBS (libraries (followers keywords.Edif t)) f → FileFault t f
  edif_design : InDesign t f → FileFault t f

-- a file is one form of the keyword `edif`
abbrev pub file_row : FormRow
file_row = Takes (the keywords.Edif ∷ []) []

-- the fault stands in the tree: it is no form of a file, or the fault is in it
pub data Stands (t : Placed) (f : MeaningFault) : Type 0 where
  no_file : has_keyword keywords.Edif (bare t) ≡ false → f ≡ misplaced BadForm file_row t → Stands t f
  in_file : IsTrue (has_keyword keywords.Edif (bare t)) → FileFault t f → Stands t f
