-- What a fault says of the tree in which it stands: which node is at its place, and in which form.
use Rattle.std.specs.Prelude.{◌≡◌, ◌⊎◌, ◌<◌, ℕ, List, [], map, Bool, true, false, IsTrue, Some, slice_get}
use Rattle.std.specs.List.{Contains}
use Rattle.netlist_schema.specs.declared.limits.TheConstants.{MOST_LIBS, MOST_CELLS, MOST_PORTS, MOST_BITS, MOST_INSTS, MOST_NETS, MOST_ENDS, MOST_NOTES}
use Rattle.edif_spelling_spec.specs.Tree.{Placed, Trees, Form', Word', More, bare}
use Rattle.netlist_bus_spec.specs.Members.{member_id}
use Rattle.edif_spec.specs.Keyword.{row}
use Rattle.edif_spec.specs.Rows.{EachAfter, has_keyword}
use Rattle.edif_spec.specs.Faults.{arguments, declared_width, defined, followers, place_of, row_has}
use Rattle.edif_spec.specs.Design as design
use Rattle.edif_spec.specs.Means.{MeansLibrary, is_library, is_note}
use Rattle.edif_spec.specs.Stands.{MeansTop, Notes, before_the_design, is_arrayed, libraries, net_names_in}
use Rattle.edif_spec.specs.declared.keyword.Keyword.{Keyword}
use Rattle.edif_spec.specs.declared.keyword.Keyword.TheVariants as keywords
use Rattle.edif_spec.specs.declared.fault.Kind.{Kind}
use Rattle.edif_spec.specs.declared.fault.Kind.TheVariants as kinds
use Rattle.edif_spec.specs.declared.fault.ClashKind.TheVariants as clashes
use Rattle.edif_spec.specs.declared.fault.MeaningFault.{MeaningFault}
use Rattle.edif_spec.specs.declared.fault.MeaningFault.TheVariants.{NotInProfile, At, Clash, OverLimit}

-- a node stands in a tree: it is the tree, or an argument of a form that stands in it
pub data IsIn (t : Placed) : Placed → Type 0 where
  whole : IsIn t t
  argument : (v u : Placed) (i : ℕ) → IsIn t v → slice_get (arguments v) i ≡ Some u → IsIn t u

-- a node is an argument of a form of this keyword, which stands in the tree
pub record IsUnder (t : Placed) (k : Keyword) (u : Placed) : Type 0 where
  pub holder : Placed
  pub inside : IsIn t holder
  pub keyword : IsTrue (has_keyword k (bare holder))
  pub at : ℕ
  pub there : slice_get (arguments holder) at ≡ Some u

-- A form whose keyword is this name stands at the place, and its parent has no such form in its row; or it is the tree itself,
-- which is no file.
pub data IsOutside (t : Placed) (name : List ℕ) (place : ℕ) : Type 0 where
  no_file : (q : ℕ) (ts : Trees ℕ) → t ≡ Form' place (More (Word' q name) ts) → has_keyword keywords.Edif (bare t) ≡ false → IsOutside t name place
  under : (k : Keyword) (q : ℕ) (ts : Trees ℕ) → IsUnder t k (Form' place (More (Word' q name) ts)) → row_has (row k) (bare (Form' place (More (Word' q name) ts))) ≡ false → IsOutside t name place

-- the forms whose first argument is a reference, or has one
abbrev pub refers : Keyword → Bool
refers keywords.LibraryRef = true
refers keywords.CellRef = true
refers keywords.ViewRef = true
refers keywords.InstanceRef = true
refers keywords.PortRef = true
refers keywords.Member = true
refers _ = false

-- a node is an identifier in a form that refers to something by it
abbrev pub IsReference : Placed → Placed → Type 0
IsReference t u = (k : Keyword) × IsTrue (refers k) × IsUnder t k u × ((name : List ℕ) × (u ≡ Word' (place_of u) name))

-- what stands where a fault of this kind is
abbrev pub IsFaulty : Kind → Placed → Placed → Type 0
IsFaulty kinds.BadForm t u = IsIn t u
IsFaulty kinds.BadVersion t u = IsUnder t keywords.EdifVersion u
IsFaulty kinds.BadLevel t u = IsUnder t keywords.EdifLevel u ⊎ IsUnder t keywords.KeywordLevel u
IsFaulty kinds.NotNetlist t u = IsUnder t keywords.ViewType u
IsFaulty kinds.Unresolved t u = IsReference t u
IsFaulty kinds.Ambiguous t u = IsReference t u
IsFaulty kinds.BadIndex t u = IsUnder t keywords.Array u ⊎ IsUnder t keywords.Member u
IsFaulty kinds.WholeArray t u = IsUnder t keywords.PortRef u
IsFaulty kinds.BadWidth t u = IsUnder t keywords.PortRef u
IsFaulty kinds.BadPath t u = (IsIn t u × IsTrue (has_keyword keywords.Path (bare u))) ⊎ IsUnder t keywords.Path u

-- two arguments of one form of the tree, the earlier one first
pub record AreInOrder (t : Placed) (a b : Placed) : Type 0 where
  pub holder : Placed
  pub inside : IsIn t holder
  pub at_a : ℕ
  pub at_b : ℕ
  pub there_a : slice_get (arguments holder) at_a ≡ Some a
  pub there_b : slice_get (arguments holder) at_b ≡ Some b
  pub order : at_a < at_b

-- two forms of one keyword in one form of the tree, the earlier one first
abbrev pub AreTwo : Placed → Keyword → Placed → Placed → Type 0
AreTwo t k a b = AreInOrder t a b × IsTrue (has_keyword k (bare a)) × IsTrue (has_keyword k (bare b))

-- The identifier of a net's array stands at the place, and one of the array's nets has the name.
pub record IsMember (t : Placed) (name : List ℕ) (place : ℕ) : Type 0 where
  pub net : Placed
  pub inside : IsIn t net
  pub keyword : IsTrue (has_keyword keywords.Net (bare net))
  pub array : IsTrue (is_arrayed (slice_get (arguments net) 0))
  pub id : List ℕ
  pub named : defined net ≡ Some (id, place)
  pub word : IsIn t (Word' place id)
  pub number : ℕ
  pub within : number < declared_width net
  pub member : name ≡ member_id id number

-- a word at the place gives the name: it spells it, or it is that of a net's array, one of whose nets has it
abbrev pub Gives : Placed → List ℕ → ℕ → Type 0
Gives t name place = IsIn t (Word' place name) ⊎ IsMember t name place

-- the forms that define names of one scope with the others of their keyword in the same form
abbrev pub has_scope : Keyword → Bool
has_scope keywords.Cell = true
has_scope keywords.Port = true
has_scope keywords.Instance = true
has_scope keywords.Property = true
has_scope _ = false

-- two forms that define names of one scope: two cells, ports, instances or properties, or two libraries, external or not
abbrev pub ShareScope : Placed → Placed → Type 0
ShareScope a b = ((k : Keyword) × IsTrue (has_scope k) × IsTrue (has_keyword k (bare a)) × IsTrue (has_keyword k (bare b))) ⊎ (IsTrue (is_library (bare a)) × IsTrue (is_library (bare b)))

-- the libraries before the design of a file mean these
abbrev pub AreBeforeDesign : Placed → List design.Lib → Type 0
AreBeforeDesign t libs = EachAfter MeansLibrary [] (map bare (libraries (before_the_design (followers keywords.Edif t)))) libs

-- A name is defined twice in one form of the tree, at these places: by two forms of one scope, by two nets or members of their
-- arrays, or as the key of two notes of a design whose paths mean the same instances.
pub data IsTwice (t : Placed) (name : List ℕ) (place earlier : ℕ) : Type 0 where
  same_forms : (a b : Placed) → AreInOrder t a b → ShareScope a b → defined a ≡ Some (name, earlier) → defined b ≡ Some (name, place) → IsTwice t name place earlier
  same_nets : (a b : Placed) → AreTwo t keywords.Net a b → Contains (net_names_in a) (name, earlier) → Contains (net_names_in b) (name, place) → IsTwice t name place earlier
  same_notes : (a b : Placed) (o : AreInOrder t a b) → IsTrue (is_note (bare a)) → IsTrue (is_note (bare b)) → (libs : List design.Lib) (top : design.CellId) (steps : List (List ℕ)) → AreBeforeDesign t libs → MeansTop libs o.holder top → Notes libs top a steps name earlier → Notes libs top b steps name place → IsTwice t name place earlier

-- an end of a net, as an argument of what the net joins
pub record IsEndOf (net : Placed) (at : ℕ) (u : Placed) : Type 0 where
  pub joined : Placed
  pub joined_there : slice_get (arguments net) 1 ≡ Some joined
  pub is_joined : IsTrue (has_keyword keywords.Joined (bare joined))
  pub there : slice_get (arguments joined) at ≡ Some u
  pub is_end : IsTrue (has_keyword keywords.PortRef (bare u))

-- two ends of the nets of one contents, the earlier one first: in two nets, or in one
pub record AreTwoEnds (t : Placed) (a b : Placed) : Type 0 where
  pub holder : Placed
  pub inside : IsIn t holder
  pub keyword : IsTrue (has_keyword keywords.Contents (bare holder))
  pub net_a : Placed
  pub net_b : Placed
  pub at_a : ℕ
  pub at_b : ℕ
  pub there_a : slice_get (arguments holder) at_a ≡ Some net_a
  pub there_b : slice_get (arguments holder) at_b ≡ Some net_b
  pub is_a : IsTrue (has_keyword keywords.Net (bare net_a))
  pub is_b : IsTrue (has_keyword keywords.Net (bare net_b))
  pub end_at_a : ℕ
  pub end_at_b : ℕ
  pub end_a : IsEndOf net_a end_at_a a
  pub end_b : IsEndOf net_b end_at_b b
  pub order : (at_a < at_b) ⊎ ((at_a ≡ at_b) × (end_at_a < end_at_b))

-- the limit is one on forms like this
pub data IsLimitOf (limit : ℕ) (u : Placed) : Type 0 where
  on_libraries : limit ≡ MOST_LIBS → IsTrue (is_library (bare u)) → IsLimitOf limit u
  on_cells : limit ≡ MOST_CELLS → IsTrue (has_keyword keywords.Cell (bare u)) → IsLimitOf limit u
  on_ports : limit ≡ MOST_PORTS → IsTrue (has_keyword keywords.Port (bare u)) → IsLimitOf limit u
  on_bits : limit ≡ MOST_BITS → IsTrue (has_keyword keywords.Port (bare u)) → IsLimitOf limit u
  on_instances : limit ≡ MOST_INSTS → IsTrue (has_keyword keywords.Instance (bare u)) → IsLimitOf limit u
  on_nets : limit ≡ MOST_NETS → IsTrue (has_keyword keywords.Net (bare u)) → IsLimitOf limit u
  on_ends : limit ≡ MOST_ENDS → IsTrue (has_keyword keywords.PortRef (bare u)) → IsLimitOf limit u
  on_notes : limit ≡ MOST_NOTES → IsTrue (is_note (bare u)) → IsLimitOf limit u

-- The fault tells of what is there.
abbrev pub Told : Placed → MeaningFault → Type 0
Told t (NotInProfile name place) = IsOutside t name place
Told t (At kind place) = (u : Placed) × (place_of u ≡ place) × IsFaulty kind t u
Told t (Clash clashes.SecondView place earlier) = (a : Placed) × (b : Placed) × (place_of a ≡ earlier) × (place_of b ≡ place) × AreTwo t keywords.View a b
Told t (Clash clashes.SecondDesign place earlier) = (a : Placed) × (b : Placed) × (place_of a ≡ earlier) × (place_of b ≡ place) × AreTwo t keywords.Design a b
Told t (Clash clashes.Duplicate place earlier) = (name : List ℕ) × Gives t name earlier × Gives t name place × IsTwice t name place earlier
Told t (Clash clashes.EndTwice place earlier) = (a : Placed) × (b : Placed) × (place_of a ≡ earlier) × (place_of b ≡ place) × (IsIn t a × IsTrue (has_keyword keywords.PortRef (bare a))) × (IsIn t b × IsTrue (has_keyword keywords.PortRef (bare b))) × AreTwoEnds t a b
Told t (OverLimit limit place) = (u : Placed) × (place_of u ≡ place) × IsIn t u × IsLimitOf limit u
