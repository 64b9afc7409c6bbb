-- The tree of a valid design can be written, and is not deep.
use Rattle.std.proofs.Common.{◌≡◌, ℕ, suc, ◌<◌, ◌≤◌, ◌^◌, max, ℤ, pos, negsuc, List, [], ◌∷◌, ◌++◌, map, refl, ap, sym, ◌∙◌, subst, Bool, true, false, Option, Some, None, arith, slice_get, slice_index_or}
use Rattle.std.specs.Prelude.{IfSome, IsSome, IsSomeAnd, codes, option_map, unwrap_or, FitsSigned}
use Rattle.std.specs.Int.{w32, w64}
use Rattle.std.specs.List.{All, AllByRecursion, flat_map}
use Rattle.std.specs.Option.{option_map_or}
use Rattle.std.proofs.lemmas.List.Elements.{recursion_from_All}
use Rattle.netlist_schema.specs.Design.{insts_in, nets_in}
use Rattle.netlist_schema.specs.Ident.{IsIdentifier}
use Rattle.netlist_schema.specs.Hierarchy.{IsCell}
use Rattle.netlist_schema.specs.Names.{HasDistinctKeys}
use Rattle.netlist_schema.specs.Typed.{IsBytes, IsTypedNum, IsTypedValue, IsTypedName, IsTypedProperty, IsTypedPort, IsTypedInst, IsTypedNet, IsTypedCell, IsTypedNote}
use Rattle.netlist_schema.specs.Valid.{HasBit, IsEndAt, IsValidCell, IsValid}
use Rattle.netlist_schema.specs.Width.{IsWidth}
use Rattle.netlist_schema.specs.declared.cell.CellKind.TheVariants as kinds
use Rattle.netlist_schema.specs.declared.cell.Direction.TheVariants as directions
use Rattle.netlist_schema.specs.declared.property.Num.TheVariants as numbers
use Rattle.netlist_schema.specs.declared.property.Value.TheVariants as values
use Rattle.netlist_schema.proofs.Cells.{All-slice_get, All-cell_at}
use Rattle.netlist_schema.proofs.Lists.{all_weaker, all_at, all_from_places, some_of}
use Rattle.edif_spelling_spec.specs.Names.{is_name}
use Rattle.edif_spelling_spec.specs.Spelling.{Spells}
use Rattle.edif_spelling_spec.specs.Tree.{Bare, form, word, integer, string, trees, depth, depths}
use Rattle.edif_spelling_spec.proofs.RowLemmas.{identifier-from_is_name}
use Rattle.edif_spec.proofs.ArrangeOrder.{zip_all}
use Rattle.edif_spec.specs.Canonical.{make, perhaps, name_tree, name_with, number_tree, boolean_tree, value_tree, text_tree, property_tree, direction_word, direction_tree, port_name_tree, port_tree, cell_ref_tree, inst_tree, ports_of_end, bit_tree, bits_tree, end_tree, net_tree, contents_tree, kind_word, interface_tree, view_tree, cell_tree, zero_tree, library_keyword, library_tree, note_tree, design_tree, tree_of, text_as_listed}
use Rattle.edif_spec.specs.Design as design
use Rattle.edif_spec.specs.Nets.{NetForm, Stretch, net_forms}
use Rattle.edif_spec.specs.Keyword.{spelling_of}
use Rattle.edif_spec.specs.Writable.{IsWritable, AreWritable}
use Rattle.edif_spec.specs.declared.keyword.Keyword.{Keyword}
use Rattle.edif_spec.specs.declared.keyword.Keyword.TheVariants as keywords
use Rattle.edif_spec.proofs.CellPlaces.{lib_of_cell, some_and, all_append_parts}
use Rattle.edif_spec.proofs.Layouts.{layout_spells}
use Rattle.edif_spec.proofs.WrittenNets.{Covers, HasPort, IsPlacedForm, IsPlacedStretch, forms_named, forms_placed, forms_properties}

keyword_is_name : (k : Keyword) → is_name (spelling_of k) ≡ true
keyword_is_name keywords.Edif = refl
keyword_is_name k = refl

-- a tree that can be written, with at most this many levels
abbrev Fine : ℕ → Bare → Type 0
Fine n t = IsWritable t × (depth t ≤ n)

abbrev FineAll : ℕ → List Bare → Type 0
FineAll n ts = AllByRecursion (Fine n) ts

fine_list : (n : ℕ) (ts : List Bare) → FineAll n ts → AreWritable (trees ts) × (depths (trees ts) ≤ n)
fine_list n [] h = (tt, omega arith)
fine_list n (t ∷ ts) h = let r = fine_list n ts h.1 in ((h.0.0, r.0), (let a : depth t ≤ n = h.0.1 in let b : depths (trees ts) ≤ n = r.1 in let c : max (depth t) (depths (trees ts)) ≤ n = omega arith in c))

fine_form : (n : ℕ) (k : Keyword) (ts : List Bare) → FineAll n ts → Fine (suc n) (make k ts)
fine_form n k ts h = let r = fine_list n ts h in ((identifier-from_is_name (spelling_of k) (keyword_is_name k), r.0), (let b : depths (trees ts) ≤ n = r.1 in let c : suc (max 0 (depths (trees ts))) ≤ suc n = omega arith in c))

fine_word : (n : ℕ) (w : List ℕ) → IsIdentifier w → Fine n (word w)
fine_word n w h = (h, omega arith)

fine_integer : (n : ℕ) (z : ℤ) → FitsSigned w64 z → Fine n (integer z)
fine_integer n z h = (h, omega arith)

fine_string : (n : ℕ) (s : List ℕ) → IsBytes s → Fine n (string s)
fine_string n s h = (h, omega arith)

fine_more : (n m : ℕ) (t : Bare) → n ≤ m → Fine n t → Fine m t
fine_more n m t l h = (h.0, (let a : depth t ≤ n = h.1 in let c : depth t ≤ m = omega arith in c))

fine_append : (n : ℕ) (a b : List Bare) → FineAll n a → FineAll n b → FineAll n (a ++ b)
fine_append n [] b h k = k
fine_append n (t ∷ a) b h k = (h.0, fine_append n a b h.1 k)

fine_map : {A : Type 0} (P : A → Type 0) (n : ℕ) (f : A → Bare) (xs : List A) → AllByRecursion P xs → ((x : A) → P x → Fine n (f x)) → FineAll n (map f xs)
fine_map P n f [] h g = tt
fine_map P n f (x ∷ xs) h g = (g x h.0, fine_map P n f xs h.1 g)

fine_perhaps : {A : Type 0} (P : A → Type 0) (n : ℕ) (f : A → Bare) (o : Option A) → IfSome o P → ((x : A) → P x → Fine n (f x)) → FineAll n (perhaps f o)
fine_perhaps P n f None h g = tt
fine_perhaps P n f (Some x) h g = (g x h, tt)

small_integer : (n : ℕ) → n < 2 ^ 63 → FitsSigned w64 (pos n)
small_integer n h = record { sfits = h }

fine_name : (name : design.Name) → IsTypedName name → Fine 1 (name_tree name)
fine_name name h = go name.shown h.shown
  where
    go : (shown : Option (List ℕ)) → IfSome shown IsBytes → Fine 1 (name_with name.id shown)
    go None k = fine_word 1 name.id h.id
    go (Some s) k = fine_form 0 keywords.Rename (word name.id ∷ string s ∷ []) (fine_word 0 name.id h.id, (fine_string 0 s k, tt))

-- a number of 32 bits fits 64 bits
pub wide : (z : ℤ) → FitsSigned w32 z → FitsSigned w64 z
wide (pos n) h = let b : n < 2 ^ 31 = h.sfits in record { sfits = omega arith }
wide (negsuc n) h = let b : n < 2 ^ 31 = h.sfits in record { sfits = omega arith }

fine_number : (x : design.Num) → IsTypedNum x → Fine 1 (number_tree x)
fine_number (numbers.Int z) h = fine_integer 1 z h
fine_number (numbers.Scaled m x) h = fine_form 0 keywords.E (integer m ∷ integer x ∷ []) (fine_integer 0 m h.0, (fine_integer 0 x (wide x h.1), tt))

fine_boolean : (b : Bool) → Fine 1 (boolean_tree b)
fine_boolean true = fine_form 0 keywords.True [] tt
fine_boolean false = fine_form 0 keywords.False [] tt

fine_value : (v : design.Value) → IsTypedValue v → Fine 2 (value_tree v)
fine_value (values.Boolean b) h = fine_form 1 keywords.Boolean (boolean_tree b ∷ []) (fine_boolean b, tt)
fine_value (values.Integer z) h = fine_form 1 keywords.Integer (integer z ∷ []) (fine_integer 1 z h, tt)
fine_value (values.Number n) h = fine_form 1 keywords.Number (number_tree n ∷ []) (fine_number n h, tt)
fine_value (values.Text s) h = fine_form 1 keywords.String (string s ∷ []) (fine_string 1 s h, tt)

fine_text : (n : ℕ) (k : Keyword) (s : List ℕ) → IsBytes s → Fine (suc n) (text_tree k s)
fine_text n k s h = fine_form n k (string s ∷ []) (fine_string n s h, tt)

fine_texts : (n : ℕ) (k : Keyword) (o : Option (List ℕ)) → IfSome o IsBytes → FineAll (suc n) (perhaps (text_tree k) o)
fine_texts n k o h = fine_perhaps IsBytes (suc n) (text_tree k) o h (fine_text n k)

fine_property : (p : design.Property) → IsTypedProperty p → Fine 3 (property_tree p)
fine_property p h = fine_form 2 keywords.Property (name_tree p.key ∷ value_tree p.value ∷ perhaps (text_tree keywords.Owner) p.owner)
    (fine_more 1 2 (name_tree p.key) (omega arith) (fine_name p.key h.key), (fine_value p.value h.value, fine_texts 1 keywords.Owner p.owner h.owner))

fine_properties : (n : ℕ) (ps : List design.Property) → 3 ≤ n → All IsTypedProperty ps → FineAll n (map property_tree ps)
fine_properties n ps l h = fine_map IsTypedProperty n property_tree ps (recursion_from_All IsTypedProperty ps h) (λ p v. fine_more 3 n (property_tree p) l (fine_property p v))

fine_direction : (d : design.Direction) → Fine 3 (direction_tree d)
fine_direction d = fine_form 2 keywords.Direction (word (direction_word d) ∷ []) (fine_word 2 (direction_word d) (identifier-from_is_name (direction_word d) (is_word d)), tt)
  where
    is_word : (d : design.Direction) → is_name (direction_word d) ≡ true
    is_word directions.Input = refl
    is_word directions.Output = refl
    is_word directions.Inout = refl

fine_directions : (o : Option design.Direction) → FineAll 3 (perhaps direction_tree o)
fine_directions None = tt
fine_directions (Some d) = (fine_direction d, tt)

fine_port_name : (name : design.Name) (array : Option ℕ) → IsTypedName name → IfSome array IsWidth → Fine 2 (port_name_tree name array)
fine_port_name name None h a = fine_more 1 2 (name_tree name) (omega arith) (fine_name name h)
fine_port_name name (Some n) h a = fine_form 1 keywords.Array (name_tree name ∷ integer (pos n) ∷ []) (fine_name name h, (fine_integer 1 (pos n) (small_integer n (omega (arith, a.1))), tt))

fine_port : (p : design.Port) → IsTypedPort p → Fine 4 (port_tree p)
fine_port p h = fine_form 3 keywords.Port (port_name_tree p.name p.array ∷ (perhaps direction_tree p.direction ++ (perhaps (text_tree keywords.Designator) p.designator ++ map property_tree p.properties))) (
  fine_more 2 3 (port_name_tree p.name p.array) (omega arith) (fine_port_name p.name p.array h.name h.array),
  fine_append 3 (perhaps direction_tree p.direction) (perhaps (text_tree keywords.Designator) p.designator ++ map property_tree p.properties) (fine_directions p.direction)
      (fine_append 3 (perhaps (text_tree keywords.Designator) p.designator) (map property_tree p.properties) (fine_texts 2 keywords.Designator p.designator h.designator) (fine_properties 3 p.properties (omega arith) h.properties)),
)

-- the names of cells and libraries are identifiers
record AreNamed (libs : List design.Lib) : Type 0 where
  pub cell : (id : design.CellId) (c : design.CellBody) → design.cell_at libs id ≡ Some c → IsTypedCell c
  pub lib : (i : ℕ) (l : design.Lib) → slice_get libs i ≡ Some l → IsTypedName l.head.name

named : (d : design.Design) → IsValid d → AreNamed d.libs
named d v = record {
  cell = λ id c e. All-cell_at IsTypedCell d id c v.typed.cells e;
  lib = λ i l e. All-slice_get (λ (l : design.Lib). IsTypedName l.head.name) d.libs i l v.typed.libs e;
}

back_name : (a b : List ℕ) → a ≡ b → IsIdentifier b → IsIdentifier a
back_name a b e h = let P : List ℕ → Type 0 = IsIdentifier in subst P (sym e) h

fine_cell_ref : (libs : List design.Lib) (id : design.CellId) → AreNamed libs → IsSome (design.cell_at libs id) → Fine 2 (cell_ref_tree libs id)
fine_cell_ref libs id n h =
    let c = some_of (design.cell_at libs id) h in
    let l = lib_of_cell libs id c.0 c.1 in
    let cell : IsIdentifier (design.cell_id libs id) = back_name (design.cell_id libs id) c.0.name.id (ap (λ o. unwrap_or (option_map (λ (x : design.CellBody). x.name.id) o) []) c.1) (n.cell id c.0 c.1).name.id in
    let lib : IsIdentifier (design.lib_id libs id.lib.0) = back_name (design.lib_id libs id.lib.0) l.0.head.name.id (ap (λ o. unwrap_or (option_map (λ (x : design.Lib). x.head.name.id) o) []) l.1) (n.lib id.lib.0 l.0 l.1).id in
    fine_form 1 keywords.CellRef (word (design.cell_id libs id) ∷ make keywords.LibraryRef (word (design.lib_id libs id.lib.0) ∷ []) ∷ [])
    (fine_word 1 (design.cell_id libs id) cell, (fine_form 0 keywords.LibraryRef (word (design.lib_id libs id.lib.0) ∷ []) (fine_word 0 (design.lib_id libs id.lib.0) lib, tt), tt))

fine_view_ref : (libs : List design.Lib) (id : design.CellId) → AreNamed libs → IsSome (design.cell_at libs id) → Fine 3 (make keywords.ViewRef (word (design.view_id libs id) ∷ cell_ref_tree libs id ∷ []))
fine_view_ref libs id n h =
    let c = some_of (design.cell_at libs id) h in
    let view : IsIdentifier (design.view_id libs id) = back_name (design.view_id libs id) c.0.view.id (ap (λ o. unwrap_or (option_map (λ (x : design.CellBody). x.view.id) o) []) c.1) (n.cell id c.0 c.1).view.id in
    fine_form 2 keywords.ViewRef (word (design.view_id libs id) ∷ cell_ref_tree libs id ∷ []) (fine_word 2 (design.view_id libs id) view, (fine_cell_ref libs id n h, tt))

-- an instance of the right types, of a cell that is there
abbrev IsFineInst : List design.Lib → design.Inst → Type 0
IsFineInst libs i = IsTypedInst i × IsSome (design.cell_at libs i.of)

fine_inst : (libs : List design.Lib) (i : design.Inst) → AreNamed libs → IsFineInst libs i → Fine 4 (inst_tree libs i)
fine_inst libs i n h = fine_form 3 keywords.Instance (name_tree i.name ∷ make keywords.ViewRef (word (design.view_id libs i.of) ∷ cell_ref_tree libs i.of ∷ []) ∷ (perhaps (text_tree keywords.Designator) i.designator ++ map property_tree i.properties)) (
  fine_more 1 3 (name_tree i.name) (omega arith) (fine_name i.name h.0.name),
  (
    fine_view_ref libs i.of n h.1,
    fine_append 3 (perhaps (text_tree keywords.Designator) i.designator) (map property_tree i.properties) (fine_texts 2 keywords.Designator i.designator h.0.designator) (fine_properties 3 i.properties (omega arith) h.0.properties),
  ),
)

fine_bit : (name : List ℕ) (array : Option ℕ) (b : ℕ) → IsIdentifier name → IfSome array IsWidth → b < unwrap_or array 1 → Fine 1 (bit_tree name array b)
fine_bit name None b h a l = fine_word 1 name h
fine_bit name (Some n) b h a l = fine_form 0 keywords.Member (word name ∷ integer (pos b) ∷ []) (fine_word 0 name h, (fine_integer 0 (pos b) (small_integer b (omega (arith, a.1, l))), tt))

-- an end is at a bit of a port
abbrev EndIn : List design.Lib → List design.Port → List design.Inst → Option ℕ → ℕ → ℕ → Type 0
EndIn libs ports insts None port bit = HasBit ports port bit
EndIn libs ports insts (Some place) port bit = IsSomeAnd (slice_get insts place) (λ inst. IsSomeAnd (design.cell_at libs inst.of) (λ of. HasBit of.ports port bit))

end_in : (d : design.Design) (body : design.CellBody) (inst : Option ℕ) (port bit : ℕ) → IsEndAt d body inst port bit → EndIn d.libs body.ports (design.insts_of body) inst port bit
end_in d body None port bit h = h
end_in d body (Some place) port bit h = h

-- that port
end_port : (libs : List design.Lib) (own : List design.Port) (insts : List design.Inst) (inst : Option ℕ) (port bit : ℕ) → AreNamed libs → AllByRecursion IsTypedPort own → EndIn libs own insts inst port bit →
    (p : design.Port) × (slice_get (ports_of_end libs own insts inst) port ≡ Some p) × (bit < design.port_width p) × IsTypedPort p
end_port libs own insts None port bit n t h =
    let p = some_and (slice_get own port) (λ p. bit < design.port_width p) h in
    (p.0, p.1, p.2, all_at IsTypedPort own port p.0 t p.1)
end_port libs own insts (Some i) port bit n t h =
    let x = some_and (slice_get insts i) (λ inst. IsSomeAnd (design.cell_at libs inst.of) (λ of. HasBit of.ports port bit)) h in
    let c = some_and (design.cell_at libs x.0.of) (λ of. HasBit of.ports port bit) x.2 in
    let p = some_and (slice_get c.0.ports port) (λ p. bit < design.port_width p) c.2 in
    let there : ports_of_end libs own insts (Some i) ≡ c.0.ports = ap (λ o. unwrap_or (option_map (λ (y : design.Inst). design.ports_at libs y.of) o) []) x.1 ∙ ap (λ o. unwrap_or (option_map (λ (y : design.CellBody). y.ports) o) []) c.1 in
    (p.0, ap (λ v. slice_get v port) there ∙ p.1, p.2, all_at IsTypedPort c.0.ports port p.0 (recursion_from_All IsTypedPort c.0.ports (n.cell x.0.of c.0 c.1).ports) p.1)

end_inst : (libs : List design.Lib) (own : List design.Port) (insts : List design.Inst) (inst : Option ℕ) (port bit : ℕ) → AllByRecursion IsTypedInst insts → EndIn libs own insts inst port bit → FineAll 1 (perhaps (λ i. make keywords.InstanceRef (word (design.inst_id insts i) ∷ [])) inst)
end_inst libs own insts None port bit t h = tt
end_inst libs own insts (Some i) port bit t h =
    let x = some_and (slice_get insts i) (λ inst. IsSomeAnd (design.cell_at libs inst.of) (λ of. HasBit of.ports port bit)) h in
    let name : IsIdentifier (design.inst_id insts i) = back_name (design.inst_id insts i) x.0.name.id (ap (λ o. unwrap_or (option_map (λ (y : design.Inst). y.name.id) o) []) x.1) (all_at IsTypedInst insts i x.0 t x.1).name.id in
    (fine_form 0 keywords.InstanceRef (word (design.inst_id insts i) ∷ []) (fine_word 0 (design.inst_id insts i) name, tt), tt)

abbrev IsFineEnd : List design.Lib → List design.Port → List design.Inst → design.End → Type 0
IsFineEnd libs own insts e = EndIn libs own insts e.inst e.port e.bit

-- the ports among which an end is
ports_typed : (libs : List design.Lib) (own : List design.Port) (insts : List design.Inst) (inst : Option ℕ) (port bit : ℕ) → AreNamed libs → AllByRecursion IsTypedPort own → EndIn libs own insts inst port bit → AllByRecursion IsTypedPort (ports_of_end libs own insts inst)
ports_typed libs own insts None port bit n t h = t
ports_typed libs own insts (Some i) port bit n t h =
    let x = some_and (slice_get insts i) (λ inst. IsSomeAnd (design.cell_at libs inst.of) (λ of. HasBit of.ports port bit)) h in
    let c = some_and (design.cell_at libs x.0.of) (λ of. HasBit of.ports port bit) x.2 in
    let there : ports_of_end libs own insts (Some i) ≡ c.0.ports = ap (λ o. unwrap_or (option_map (λ (y : design.Inst). design.ports_at libs y.of) o) []) x.1 ∙ ap (λ o. unwrap_or (option_map (λ (y : design.CellBody). y.ports) o) []) c.1 in
    subst (λ (ps : List design.Port). AllByRecursion IsTypedPort ps) (sym there) (recursion_from_All IsTypedPort c.0.ports (n.cell x.0.of c.0 c.1).ports)

has_port : (libs : List design.Lib) (own : List design.Port) (insts : List design.Inst) (e : design.End) → AreNamed libs → AllByRecursion IsTypedPort own → IsFineEnd libs own insts e → HasPort (ports_of_end libs own insts) e
has_port libs own insts e n t h = let p = end_port libs own insts e.inst e.port e.bit n t h in (p.0, p.1, p.2)

-- a stretch at a port that is there, and at an instance that is there
abbrev IsFineStretch : List design.Lib → List design.Port → List design.Inst → Option ℕ → Stretch → Type 0
IsFineStretch libs own insts array s = IsPlacedStretch (ports_of_end libs own insts) array s × ((e : design.End) × (e.inst ≡ s.inst) × IsFineEnd libs own insts e)

fine_bits : (array : Option ℕ) (p : design.Port) (s : Stretch) → IsTypedPort p → Covers array p s → Fine 1 (bits_tree array (Some p) s.first)
fine_bits None p s h c = fine_bit p.name.id p.array s.first h.name.id h.array c.0
fine_bits (Some n) p s h c = fine_word 1 p.name.id h.name.id

fine_end : (libs : List design.Lib) (own : List design.Port) (insts : List design.Inst) (array : Option ℕ) (s : Stretch) → AreNamed libs → AllByRecursion IsTypedPort own → AllByRecursion IsTypedInst insts → IsFineStretch libs own insts array s → Fine 2 (end_tree libs own insts array s)
fine_end libs own insts array s n t k h =
    let ports = ports_of_end libs own insts s.inst in
    let e = h.1.0 in
    let typed : AllByRecursion IsTypedPort ports = subst (λ (o : Option ℕ). AllByRecursion IsTypedPort (ports_of_end libs own insts o)) h.1.1 (ports_typed libs own insts e.inst e.port e.bit n t h.1.2) in
    let p = h.0.port in
    let q : IsTypedPort p = all_at IsTypedPort ports s.port p typed h.0.there in
    let tree : bits_tree array (Some p) s.first ≡ bits_tree array (slice_get ports s.port) s.first = sym (ap (λ o. bits_tree array o s.first) h.0.there) in
    let F : Bare → Type 0 = Fine 1 in
    fine_form 1 keywords.PortRef (bits_tree array (slice_get ports s.port) s.first ∷ perhaps (λ i. make keywords.InstanceRef (word (design.inst_id insts i) ∷ [])) s.inst)
    (subst F tree (fine_bits array p s q h.0.covers), subst (λ (o : Option ℕ). FineAll 1 (perhaps (λ i. make keywords.InstanceRef (word (design.inst_id insts i) ∷ [])) o)) h.1.1 (end_inst libs own insts e.inst e.port e.bit k h.1.2))

-- a net of the right types, whose ends are there
abbrev IsFineNet : List design.Lib → List design.Port → List design.Inst → design.Net → Type 0
IsFineNet libs own insts x = IsTypedNet x × AllByRecursion (IsFineEnd libs own insts) x.ends

-- and a form of such nets
record IsFineForm (libs : List design.Lib) (own : List design.Port) (insts : List design.Inst) (f : NetForm) : Type 0 where
  pub placed : IsPlacedForm (ports_of_end libs own insts) (IsFineEnd libs own insts) f
  pub name : IsTypedName f.name
  pub properties : All IsTypedProperty f.properties

fine_net : (libs : List design.Lib) (own : List design.Port) (insts : List design.Inst) (x : NetForm) → AreNamed libs → AllByRecursion IsTypedPort own → AllByRecursion IsTypedInst insts → IsFineForm libs own insts x → Fine 4 (net_tree libs own insts x)
fine_net libs own insts x n t k h = fine_form 3 keywords.Net (port_name_tree x.name x.array ∷ make keywords.Joined (map (end_tree libs own insts x.array) x.joined) ∷ map property_tree x.properties) (
  fine_more 2 3 (port_name_tree x.name x.array) (omega arith) (fine_port_name x.name x.array h.name h.placed.array),
  (
    fine_form 2 keywords.Joined (map (end_tree libs own insts x.array) x.joined)
        (fine_map (IsFineStretch libs own insts x.array) 2 (end_tree libs own insts x.array) x.joined
        (zip_all (IsPlacedStretch (ports_of_end libs own insts) x.array) (λ (s : Stretch). (e : design.End) × (e.inst ≡ s.inst) × IsFineEnd libs own insts e) x.joined h.placed.joined h.placed.known)
        (λ s w. fine_end libs own insts x.array s n t k w)),
    fine_properties 3 x.properties (omega arith) h.properties,
  ),
)

forms_fine : (libs : List design.Lib) (own : List design.Port) (insts : List design.Inst) (fs : List NetForm) → AllByRecursion (IsPlacedForm (ports_of_end libs own insts) (IsFineEnd libs own insts)) fs → AllByRecursion (λ (f : NetForm). IsTypedName f.name) fs
    → AllByRecursion (λ (f : NetForm). All IsTypedProperty f.properties) fs → AllByRecursion (IsFineForm libs own insts) fs
forms_fine libs own insts [] h k g = tt
forms_fine libs own insts (f ∷ fs) h k g = (record { placed = h.0; name = k.0; properties = g.0 }, forms_fine libs own insts fs h.1 k.1 g.1)

written_fine : (libs : List design.Lib) (own : List design.Port) (insts : List design.Inst) (nets : List design.Net) → AreNamed libs → AllByRecursion IsTypedPort own → AllByRecursion (IsFineNet libs own insts) nets → AllByRecursion (IsFineForm libs own insts) (net_forms (ports_of_end libs own insts) nets)
written_fine libs own insts nets n t h =
    forms_fine libs own insts (net_forms (ports_of_end libs own insts) nets)
    (forms_placed (ports_of_end libs own insts) (IsFineEnd libs own insts) 0 nets
    (all_weaker (IsFineNet libs own insts) (λ (x : design.Net). AllByRecursion (HasPort (ports_of_end libs own insts)) x.ends) nets (λ x w. all_weaker (IsFineEnd libs own insts) (HasPort (ports_of_end libs own insts)) x.ends (λ e v. has_port libs own insts e n t v) w.1) h)
    (all_weaker (IsFineNet libs own insts) (λ (x : design.Net). AllByRecursion (IsFineEnd libs own insts) x.ends) nets (λ x w. w.1) h))
    (forms_named (ports_of_end libs own insts) 0 nets (all_weaker (IsFineNet libs own insts) (λ (x : design.Net). IsTypedName x.name) nets (λ x w. w.0.name) h))
    (forms_properties (ports_of_end libs own insts) (λ ps. All IsTypedProperty ps) 0 nets (all_weaker (IsFineNet libs own insts) (λ (x : design.Net). All IsTypedProperty x.properties) nets (λ x w. w.0.properties) h))

fine_contents : (libs : List design.Lib) (own : List design.Port) (c : design.Contents) → AreNamed libs → AllByRecursion IsTypedPort own → AllByRecursion (IsFineInst libs) c.insts → AllByRecursion IsTypedInst c.insts → AllByRecursion (IsFineNet libs own c.insts) c.nets → Fine 5 (contents_tree libs own c)
fine_contents libs own c n t i k x =
    let fs : List NetForm = net_forms (ports_of_end libs own c.insts) c.nets in
    fine_form 4 keywords.Contents (map (inst_tree libs) c.insts ++ map (net_tree libs own c.insts) fs)
    (fine_append 4 (map (inst_tree libs) c.insts) (map (net_tree libs own c.insts) fs) (fine_map (IsFineInst libs) 4 (inst_tree libs) c.insts i (λ y w. fine_inst libs y n w)) (fine_map (IsFineForm libs own c.insts) 4 (net_tree libs own c.insts) fs (written_fine libs own c.insts c.nets n t x) (λ y w. fine_net libs own c.insts y n t k w)))

-- a cell of the right types, whose instances and ends are there
record IsFineCell (libs : List design.Lib) (c : design.CellBody) : Type 0 where
  pub typed : IsTypedCell c
  pub insts : AllByRecursion (IsFineInst libs) (design.insts_of c)
  pub typed_insts : AllByRecursion IsTypedInst (design.insts_of c)
  pub nets : AllByRecursion (IsFineNet libs c.ports (design.insts_of c)) (nets_in c.contents)

fine_inside : (libs : List design.Lib) (own : List design.Port) (o : Option design.Contents) → AreNamed libs → AllByRecursion IsTypedPort own → AllByRecursion (IsFineInst libs) (insts_in o) → AllByRecursion IsTypedInst (insts_in o) → AllByRecursion (IsFineNet libs own (insts_in o)) (nets_in o) → FineAll 5 (perhaps (contents_tree libs own) o)
fine_inside libs own None n t i k x = tt
fine_inside libs own (Some c) n t i k x = (fine_contents libs own c n t i k x, tt)

fine_kind : (k : design.CellKind) → Fine 7 (make keywords.CellType (word (kind_word k) ∷ []))
fine_kind k = fine_form 6 keywords.CellType (word (kind_word k) ∷ []) (fine_word 6 (kind_word k) (identifier-from_is_name (kind_word k) (is_word k)), tt)
  where
    is_word : (k : design.CellKind) → is_name (kind_word k) ≡ true
    is_word kinds.Generic = refl
    is_word kinds.Tie = refl
    is_word kinds.Ripper = refl

fine_interface : (c : design.CellBody) → IsTypedCell c → Fine 5 (interface_tree c)
fine_interface c h = fine_form 4 keywords.Interface (map port_tree c.ports ++ map property_tree c.interface_properties)
    (fine_append 4 (map port_tree c.ports) (map property_tree c.interface_properties) (fine_map IsTypedPort 4 port_tree c.ports (recursion_from_All IsTypedPort c.ports h.ports) fine_port) (fine_properties 4 c.interface_properties (omega arith) h.interface_properties))

fine_view : (libs : List design.Lib) (c : design.CellBody) → AreNamed libs → IsFineCell libs c → Fine 6 (view_tree libs c)
fine_view libs c n h = fine_form 5 keywords.View (name_tree c.view ∷ make keywords.ViewType (word (codes "NETLIST") ∷ []) ∷ interface_tree c ∷ (map property_tree c.view_properties ++ perhaps (contents_tree libs c.ports) c.contents)) (
  fine_more 1 5 (name_tree c.view) (omega arith) (fine_name c.view h.typed.view),
  (
    fine_form 4 keywords.ViewType (word (codes "NETLIST") ∷ []) (fine_word 4 (codes "NETLIST") (identifier-from_is_name (codes "NETLIST") refl), tt),
    (
      fine_interface c h.typed,
      fine_append 5 (map property_tree c.view_properties) (perhaps (contents_tree libs c.ports) c.contents) (fine_properties 5 c.view_properties (omega arith) h.typed.view_properties)
          (fine_inside libs c.ports c.contents n (recursion_from_All IsTypedPort c.ports h.typed.ports) h.insts h.typed_insts h.nets),
    ),
  ),
)

fine_cell : (libs : List design.Lib) (c : design.CellBody) → AreNamed libs → IsFineCell libs c → Fine 8 (cell_tree libs c)
fine_cell libs c n h = fine_form 7 keywords.Cell (name_tree c.name ∷ make keywords.CellType (word (kind_word c.kind) ∷ []) ∷ (map property_tree c.properties ++ view_tree libs c ∷ [])) (
  fine_more 1 7 (name_tree c.name) (omega arith) (fine_name c.name h.typed.name),
  (fine_kind c.kind, fine_append 7 (map property_tree c.properties) (view_tree libs c ∷ []) (fine_properties 7 c.properties (omega arith) h.typed.properties) (fine_more 6 7 (view_tree libs c) (omega arith) (fine_view libs c n h), tt)),
)

fine_zero : (n : ℕ) (k : Keyword) → Fine (suc n) (zero_tree k)
fine_zero n k = fine_form n k (integer (pos 0) ∷ []) (fine_integer n (pos 0) (small_integer 0 (omega arith)), tt)

fine_library : (libs : List design.Lib) (l : design.Lib) → AreNamed libs → IsTypedName l.head.name → AllByRecursion (IsFineCell libs) l.cells → Fine 9 (library_tree libs l)
fine_library libs l n name cells = fine_form 8 (library_keyword l.head.external) (name_tree l.head.name ∷ zero_tree keywords.EdifLevel ∷ make keywords.Technology (form (word (codes "numberDefinition") ∷ []) ∷ []) ∷ map (cell_tree libs) l.cells) (
  fine_more 1 8 (name_tree l.head.name) (omega arith) (fine_name l.head.name name),
  (
    fine_zero 7 keywords.EdifLevel,
    (
      fine_form 7 keywords.Technology (form (word (codes "numberDefinition") ∷ []) ∷ []) (((identifier-from_is_name (codes "numberDefinition") refl, tt), omega arith), tt),
      fine_map (IsFineCell libs) 8 (cell_tree libs) l.cells cells (λ c w. fine_cell libs c n w),
    ),
  ),
)

-- what is valid is fine
ends_by_net : (P : design.End → Type 0) (nets : List design.Net) → AllByRecursion P (flat_map (λ net. net.ends) nets) → AllByRecursion (λ (net : design.Net). AllByRecursion P net.ends) nets
ends_by_net P [] h = tt
ends_by_net P (x ∷ nets) h = let t = all_append_parts P x.ends (flat_map (λ net. net.ends) nets) h in (t.0, ends_by_net P nets t.1)

cell_is_fine : (d : design.Design) (id : design.CellId) (c : design.CellBody) → IsValid d → design.cell_at d.libs id ≡ Some c → IsFineCell d.libs c
cell_is_fine d id c v e =
    let typed = (named d v).cell id c e in
    let valid : IsValidCell d id c = v.cells id c e in
    let insts = recursion_from_All IsTypedInst (design.insts_of c) typed.insts in
    let places = recursion_from_All (λ (i : design.Inst). IsCell d i.of) (design.insts_of c) valid.placed in
    let ends : AllByRecursion (IsFineEnd d.libs c.ports (design.insts_of c)) (flat_map (λ net. net.ends) (nets_in c.contents)) = recursion_from_All (IsFineEnd d.libs c.ports (design.insts_of c)) (flat_map (λ net. net.ends) (nets_in c.contents))
    (λ k x l. let y = slice_index_or (flat_map (λ net. net.ends) (nets_in c.contents)) k x in end_in d c y.inst y.port y.bit (valid.ends k x l)) in
    record {
      typed = typed;
      insts = zip_all IsTypedInst (λ i. IsSome (design.cell_at d.libs i.of)) (design.insts_of c) insts places;
      typed_insts = insts;
      nets = zip_all IsTypedNet (λ x. AllByRecursion (IsFineEnd d.libs c.ports (design.insts_of c)) x.ends) (nets_in c.contents) (recursion_from_All IsTypedNet (nets_in c.contents) typed.nets) (ends_by_net (IsFineEnd d.libs c.ports (design.insts_of c)) (nets_in c.contents) ends);
    }

library_is_fine : (d : design.Design) (i : ℕ) (l : design.Lib) → IsValid d → slice_get d.libs i ≡ Some l → Fine 9 (library_tree d.libs l)
library_is_fine d i l v e = fine_library d.libs l (named d v) ((named d v).lib i l e) (all_from_places (IsFineCell d.libs) l.cells (λ slot c f.
    cell_is_fine d (record { lib = record { 0 = i }; slot = slot }) c v (ap (λ o. slice_get (option_map_or (λ (x : design.Lib). x.cells) o []) slot) e ∙ f)))

fine_libraries : (d : design.Design) → IsValid d → FineAll 9 (map (library_tree d.libs) d.libs)
fine_libraries d v = fine_map (λ l. Fine 9 (library_tree d.libs l)) 9 (library_tree d.libs) d.libs (all_from_places (λ l. Fine 9 (library_tree d.libs l)) d.libs (λ i l e. library_is_fine d i l v e)) (λ l w. w)

fine_path : (path : List (List ℕ)) → AllByRecursion IsIdentifier path → FineAll 0 (map word path)
fine_path path h = fine_map IsIdentifier 0 word path h (fine_word 0)

fine_note : (n : design.Note) → IsTypedNote n → Fine 4 (note_tree n)
fine_note n h = fine_form 3 keywords.UserData (word (codes "netdb_note") ∷ make keywords.Path (map word n.path) ∷ property_tree n.property ∷ [])
    (fine_word 3 (codes "netdb_note") (identifier-from_is_name (codes "netdb_note") refl), (fine_more 1 3 (make keywords.Path (map word n.path)) (omega arith) (fine_form 0 keywords.Path (map word n.path) (fine_path n.path (recursion_from_All IsIdentifier n.path h.path))), (fine_property n.property h.property, tt)))

fine_top : (d : design.Design) (t : design.TopHead) → IsValid d → IsTypedName t.name × All IsTypedProperty t.properties → IsSome (design.cell_at d.libs t.cell) → Fine 5 (design_tree d.libs d.notes t)
fine_top d t v h k = fine_form 4 keywords.Design (name_tree t.name ∷ cell_ref_tree d.libs t.cell ∷ (map property_tree t.properties ++ map note_tree d.notes)) (
  fine_more 1 4 (name_tree t.name) (omega arith) (fine_name t.name h.0),
  (
    fine_more 2 4 (cell_ref_tree d.libs t.cell) (omega arith) (fine_cell_ref d.libs t.cell (named d v) k),
    fine_append 4 (map property_tree t.properties) (map note_tree d.notes) (fine_properties 4 t.properties (omega arith) h.1) (fine_map IsTypedNote 4 note_tree d.notes (recursion_from_All IsTypedNote d.notes v.typed.notes) fine_note),
  ),
)

fine_tops : (d : design.Design) → IsValid d → FineAll 9 (perhaps (design_tree d.libs d.notes) d.top)
fine_tops d v = go d.top v.typed.top v.top
  where
    go : (o : Option design.TopHead) → IfSome o (λ t. IsTypedName t.name × All IsTypedProperty t.properties) → IfSome o (λ t. IsCell d t.cell × HasDistinctKeys t.properties) → FineAll 9 (perhaps (design_tree d.libs d.notes) o)
    go None h k = tt
    go (Some t) h k = (fine_more 5 9 (design_tree d.libs d.notes t) (omega arith) (fine_top d t v h k.0), tt)

fine_tree : (d : design.Design) → IsValid d → Fine 10 (tree_of d)
fine_tree d v = fine_form 9 keywords.Edif (name_tree d.title
    ∷ make keywords.EdifVersion (integer (pos 2) ∷ integer (pos 0) ∷ integer (pos 0) ∷ [])
    ∷ zero_tree keywords.EdifLevel
    ∷ make keywords.KeywordMap (zero_tree keywords.KeywordLevel ∷ [])
    ∷ (map (library_tree d.libs) d.libs ++ perhaps (design_tree d.libs d.notes) d.top)) (
      fine_more 1 9 (name_tree d.title) (omega arith) (fine_name d.title v.typed.title),
      (
        fine_form 8 keywords.EdifVersion (integer (pos 2) ∷ integer (pos 0) ∷ integer (pos 0) ∷ []) (fine_integer 8 (pos 2) (small_integer 2 (omega arith)), (fine_integer 8 (pos 0) (small_integer 0 (omega arith)), (fine_integer 8 (pos 0) (small_integer 0 (omega arith)), tt))),
        (
          fine_zero 8 keywords.EdifLevel,
          (
            fine_form 8 keywords.KeywordMap (zero_tree keywords.KeywordLevel ∷ []) (fine_zero 7 keywords.KeywordLevel, tt),
            fine_append 9 (map (library_tree d.libs) d.libs) (perhaps (design_tree d.libs d.notes) d.top) (fine_libraries d v) (fine_tops d v),
          ),
        ),
      ),
    )

-- the tree of a valid design can be written, and has ten levels at most
pub tree_writable : (d : design.Design) → IsValid d → IsWritable (tree_of d)
tree_writable d v = (fine_tree d v).0

pub tree_low : (d : design.Design) → IsValid d → depth (tree_of d) ≤ 10
tree_low d v = (fine_tree d v).1

-- so its text spells its tree
pub text_spelled : (d : design.Design) → IsValid d → Spells (text_as_listed d) (tree_of d)
text_spelled d v = let low : depth (tree_of d) ≤ 10 = tree_low d v in layout_spells (tree_of d) tt (omega (arith, low)) (tree_writable d v)
