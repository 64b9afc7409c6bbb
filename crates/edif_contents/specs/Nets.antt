-- What is read of nets.
use Rattle.std.specs.Prelude.{◌≡◌, ◌^◌, ◌<◌, ◌≤◌, ◌⊎◌, ◌+◌, ◌*◌, ◌++◌, ℕ, List, [], ◌∷◌, Option, Some, map, length, true}
use Rattle.std.specs.List.{All, AllByRecursion, AllZip, flat_map}
use Rattle.edif_spelling_spec.specs.Tree.{Bare, Placed, bare}
use Rattle.netlist_schema.specs.Names.{AreDistinct, HasDistinctKeys}
use Rattle.netlist_schema.specs.Typed.{IsTypedNet, IsTypedProperty}
use Rattle.netlist_schema.specs.declared.limits.TheConstants.{MOST_ENDS, MOST_NETS}
use Rattle.edif_spec.specs.Design as design
use Rattle.edif_spec.specs.Faults.{Among, AtTwo, Beyond, SameOfTwo, declared_width, defined, parts, repeated, those_of}
use Rattle.edif_spec.specs.Nets.{FineForm, NetForm, Stretch, nets_of, row_size, single_form}
use Rattle.edif_spec.specs.Means.{MeansNet, MeansProperties}
use Rattle.edif_spec.specs.Rows.{Each, IsFormOf, has_keyword, those}
use Rattle.edif_spec.specs.Stands.{NetFault, PropertiesFault, SameEnd, counted_ends, ends_in, net_names_in, row_ends}
use Rattle.edif_spec.specs.declared.fault.MeaningFault.{MeaningFault}
use Rattle.edif_spec.specs.declared.keyword.Keyword.TheVariants as keywords
use Rattle.edif_tree.specs.Handles.{all}
use Rattle.edif_contents.specs.Ends.{EndFaultIn, MeansEndIn, WidthFaultIn}
use Rattle.edif_nets.specs.Joins.{places_of}
use Rattle.edif_nets.specs.NetLists.{named}
use Rattle.edif_contents.specs.declared.ends.Surroundings.{Surroundings}
use Rattle.edif_nets.specs.declared.net_list.NetList.{NetList}
use Rattle.edif_contents.specs.declared.nets.NetAt.{NetAt}
use Rattle.edif_contents.specs.declared.nets.Written.{Written}
use Rattle.edif_contents.specs.declared.nets.Written.TheVariants as written

-- a net as it is written, as a form
abbrev pub form_in : Written → NetForm
form_in (written.One n) = single_form n
form_in (written.Many f) = f

-- The forms of the ends that a form says that a net joins.
pub record HasEnds (t : Placed) (us : List Placed) : Type 0 where
  pub form : IsFormOf keywords.Joined (bare t) [] (map bare us)
  pub are : us ≡ parts keywords.Joined keywords.PortRef t
  pub refs : AllByRecursion (λ u. has_keyword keywords.PortRef (bare u) ≡ true) us

-- The bits that an end means, which are as wide as a net with this array, and begin at a number of 32 bits; and what is wrong with one.
pub record IsWideEnd (s : Surroundings) (array : Option ℕ) (t : Placed) (x : Stretch) : Type 0 where
  pub mean : MeansEndIn s (bare t) x
  pub wide : x.width ≡ row_size array
  pub within : x.first < 2 ^ 32

abbrev pub WideEndFault : Surroundings → Option ℕ → Placed → MeaningFault → Type 0
WideEndFault s array t f = EndFaultIn s t f ⊎ WidthFaultIn s array t f

-- A net with this name and this array, which joins what these forms of ends mean, and has the properties among these followers; and what is
-- wrong with one.
pub record HasParts (s : Surroundings) (title : design.Name) (bus : Option ℕ) (us inner : List Placed) (n : NetForm) : Type 0 where
  pub name : n.name ≡ title
  pub array : n.array ≡ bus
  pub ends : AllZip (IsWideEnd s bus) us n.joined
  pub properties : MeansProperties (map bare inner) n.properties × All IsTypedProperty n.properties × HasDistinctKeys n.properties

abbrev pub PartFault : Surroundings → Option ℕ → List Placed → List Placed → MeaningFault → Type 0
PartFault s array us inner f = Among (WideEndFault s array) us f ⊎ PropertiesFault (those_of keywords.Property inner) f

-- what a net means as it is written, and what is wrong with one
abbrev pub MeansNetIn : Surroundings → Bare → NetForm → Type 0
MeansNetIn s t n = MeansNet s.libs.now.libs s.ports.now s.insts.now t n

abbrev pub NetFaultIn : Surroundings → Placed → MeaningFault → Type 0
NetFaultIn s t f = NetFault s.libs.now.libs s.ports.now s.insts.now t f

-- a net is fit for a design
abbrev pub IsFine : design.Net → Type 0
IsFine n = IsTypedNet n × HasDistinctKeys n.properties

-- The net that a form means as it is written, whose bits begin at numbers of 32 bits; the place of its name, and the nodes of its ends.
pub record ReadNet (s : Surroundings) (t : Placed) (n : NetAt) : Type 0 where
  pub mean : MeansNetIn s (bare t) (form_in n.net)
  pub fine : FineForm (form_in n.net)
  pub within : All (λ s. s.first < 2 ^ 32) (form_in n.net).joined
  pub named : defined t ≡ Some ((form_in n.net).name.id, n.place)
  pub nodes : all n.ends ≡ ends_in t

-- The nets for which the forms of nets among these stand, within the limits, with names that differ and each bit joined once.
pub record ReadNets (s : Surroundings) (ts : List Placed) (ns : List design.Net) : Type 0 where
  pub rows : List NetForm
  pub mean : Each (MeansNetIn s) (those keywords.Net (map bare ts)) rows
  pub nets : ns ≡ flat_map nets_of rows
  pub fine : All IsFine ns
  pub names : AreDistinct (map (λ (n : design.Net). n.name.id) ns)
  pub count : length ns ≤ MOST_NETS
  pub ends : length (flat_map (λ (n : design.Net). n.ends) ns) ≤ MOST_ENDS
  pub joined_once : AreDistinct (flat_map (λ (n : design.Net). n.ends) ns)

-- what is wrong with nets: in one of them, a bit that is joined twice, a name that repeats, more nets or ends than allowed
abbrev pub NetsFaultIn : Surroundings → List Placed → MeaningFault → Type 0
NetsFaultIn s ts f = Among (NetFaultIn s) ts f ⊎ (AtTwo (SameEnd s.libs.now.libs s.ports.now s.insts.now f) (flat_map row_ends ts)
    ⊎ (AtTwo (SameOfTwo f) (flat_map net_names_in ts) ⊎ (Beyond MOST_NETS (repeated declared_width ts) f ⊎ Beyond MOST_ENDS (flat_map counted_ends ts) f)))

-- the forms of ends and the names of the forms of nets among these
abbrev pub refs_in : List Placed → List (Placed × ℕ × ℕ)
refs_in ts = flat_map row_ends (those_of keywords.Net ts)

abbrev pub names_in : List Placed → List (List ℕ × ℕ)
names_in ts = flat_map net_names_in (those_of keywords.Net ts)

-- each form means the row in its place
abbrev pub AreMeant : Surroundings → List Placed → List NetForm → Type 0
AreMeant s ts ns = AllZip (λ u n. MeansNetIn s (bare u) n) ts ns

-- The forms of nets among these mean rows, whose nets are those of this list, within the limits; their names and ends stand in its places.
pub record NetsSoFar (s : Surroundings) (ts : List Placed) (l : NetList) : Type 0 where
  pub forms : List NetForm
  pub mean : AreMeant s (those_of keywords.Net ts) forms
  pub fine : AllByRecursion FineForm forms
  pub nets : l.nets.items ≡ flat_map nets_of forms
  pub places : length l.places.items ≡ length l.nets.items
  pub names : named l.nets.items l.places.items ≡ names_in ts
  pub count : length l.nets.items ≤ MOST_NETS
  pub ends : l.ends.items ≡ places_of (refs_in ts)
  pub ends_count : length l.ends.items ≤ MOST_ENDS

-- there is room for the nets of a form behind those of a list, and for their ends
abbrev pub RowFits : NetList → Placed → NetForm → Type 0
RowFits l t n = (length l.nets.items + row_size n.array ≤ MOST_NETS) × (length l.ends.items + length (ends_in t) * row_size n.array ≤ MOST_ENDS)

-- what is wrong with nets where this form comes next, whatever follows it
abbrev pub NextNetFault : Surroundings → List Placed → Placed → MeaningFault → Type 0
NextNetFault s before t f = (rest : List Placed) → NetsFaultIn s (those_of keywords.Net (before ++ t ∷ rest)) f
