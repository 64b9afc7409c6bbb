-- The canonical tree of a contents means it, where each placed cell is defined before.
use Rattle.std.proofs.Common.{◌≡◌, ℕ, ◌<◌, List, [], ◌∷◌, map, length, refl, ap, sym, ◌∙◌, subst, inl, inr, true, Option, Some, None, arith}
use Rattle.std.specs.Prelude.{IsTrue, IfSome, IsSome, IsSomeAnd, codes, slice_get, option_map, unwrap_or}
use Rattle.std.specs.List.{AllByRecursion}
use Rattle.netlist_schema.proofs.Lists.{some_of, get_there, get_mapped, all_weaker, all_at}
use Rattle.edif_spelling_spec.specs.Tree.{Bare, word}
use Rattle.edif_spec.proofs.CellPlaces.{lib_of_cell}
use Rattle.edif_spec.proofs.ArrangeOrder.{zip_all}
use Rattle.edif_spec.specs.Keyword.{Many, One, AnIdentifier, AForm}
use Rattle.edif_spec.specs.Rows.{is_one_of, Perhaps}
use Rattle.edif_spec.specs.Canonical.{make, perhaps, name_tree, text_tree, property_tree, cell_ref_tree, inst_tree, ports_of_end, bit_tree, bits_tree, port_name_tree, end_tree, net_tree, contents_tree}
use Rattle.edif_spec.specs.Means.{meant, Found, MeansText, MeansCellRef, MeansViewRef, MeansInst, MeansInstRef, MeansBits, MeansEnd, MeansNet, MeansContents, width_at}
use Rattle.netlist_schema.specs.Valid.{HasBit}
use Rattle.netlist_schema.specs.Width.{IsWidth}
use Rattle.edif_spec.specs.Nets.{NetForm, Stretch, net_forms, row_size}
use Rattle.edif_spec.proofs.WrittenNets.{Covers, HasPort, IsPlacedForm, IsPlacedStretch, forms_are_nets, forms_placed, forms_properties}
use Rattle.edif_spec.proofs.ValidForms.{distinct, ValidProperties, ValidInst, ValidEnd, ValidNet, ValidContents}
use Rattle.edif_spec.specs.declared.keyword.Keyword.{Keyword}
use Rattle.edif_spec.specs.declared.keyword.Keyword.TheVariants as keywords
use Rattle.edif_spec.specs.Design as design
use Rattle.edif_spec.proofs.Groups.{joined, Grouped, those_joined, joined_follows}
use Rattle.edif_spec.proofs.Followers.{at_most_one, each_map, perhaps_one}
use Rattle.edif_spec.proofs.Meanings.{name_fits, name_meant, port_name_fits, port_name_meant, text_form, group_of, option_group, properties_meant}
use Rattle.edif_spec.proofs.Scopes.{meant_self, IsScope, cell_in_all}

abbrev name_of_cell : design.CellBody → List ℕ
name_of_cell c = c.name.id

-- the names that the canonical tree has for a cell in scope
cell_name : (libs : List design.Lib) (id : design.CellId) (c : design.CellBody) → design.cell_at libs id ≡ Some c → design.cell_id libs id ≡ c.name.id
cell_name libs id c e = ap (λ o. unwrap_or (option_map (λ (x : design.CellBody). x.name.id) o) []) e

view_name : (libs : List design.Lib) (id : design.CellId) (c : design.CellBody) → design.cell_at libs id ≡ Some c → design.view_id libs id ≡ c.view.id
view_name libs id c e = ap (λ o. unwrap_or (option_map (λ (x : design.CellBody). x.view.id) o) []) e

ports_there : (libs : List design.Lib) (id : design.CellId) (c : design.CellBody) → design.cell_at libs id ≡ Some c → design.ports_at libs id ≡ c.ports
ports_there libs id c e = ap (λ o. unwrap_or (option_map (λ (x : design.CellBody). x.ports) o) []) e

lib_name : (libs : List design.Lib) (i : ℕ) (l : design.Lib) → slice_get libs i ≡ Some l → design.lib_id libs i ≡ l.head.name.id
lib_name libs i l e = ap (λ o. unwrap_or (option_map (λ (x : design.Lib). x.head.name.id) o) []) e

cells_there : (libs : List design.Lib) (i : ℕ) (l : design.Lib) → slice_get libs i ≡ Some l → design.cell_ids libs i ≡ map name_of_cell l.cells
cells_there libs i l e = ap (λ o. unwrap_or (option_map (λ (x : design.Lib). map name_of_cell x.cells) o) []) e

pub cell_ref_meant : (scope all : List design.Lib) (own : Option ℕ) (id : design.CellId) (c : design.CellBody) → IsScope scope all → design.cell_at scope id ≡ Some c → MeansCellRef scope own (cell_ref_tree all id) id
cell_ref_meant scope all own id c s e =
    let l = lib_of_cell scope id c e in
    let m = s.at id.lib.0 l.0 l.1 in
    let whole : design.cell_at all id ≡ Some c = cell_in_all scope all id c s e in
    let lib_there : design.lib_id all id.lib.0 ≡ l.0.head.name.id = lib_name all id.lib.0 m.0 m.1 ∙ ap (λ (h : design.LibHead). h.name.id) m.2 in
    let found_lib : meant (design.lib_ids scope) (design.lib_id all id.lib.0) ≡ Found id.lib.0 =
    ap (meant (design.lib_ids scope)) lib_there ∙ meant_self (design.lib_ids scope) id.lib.0 l.0.head.name.id s.lib_names (get_mapped (λ (x : design.Lib). x.head.name.id) scope id.lib.0 l.0 l.1) in
    let found_cell : meant (design.cell_ids scope id.lib.0) (design.cell_id all id) ≡ Found id.slot =
    ap (λ v. meant v (design.cell_id all id)) (cells_there scope id.lib.0 l.0 l.1) ∙ (ap (meant (map name_of_cell l.0.cells)) (cell_name all id c whole)
    ∙ meant_self (map name_of_cell l.0.cells) id.slot c.name.id (s.cell_names id.lib.0 l.0 l.1) (get_mapped name_of_cell l.0.cells id.slot c l.2)) in
    record {
      spelled = design.cell_id all id;
      inner = make keywords.LibraryRef (word (design.lib_id all id.lib.0) ∷ []) ∷ [];
      form = record { spelled = codes "cellRef"; is = refl; keyword = refl; fits = ((refl, tt), refl, (omega arith, tt)) };
      lib = (design.lib_id all id.lib.0, record { spelled = codes "libraryRef"; is = refl; keyword = refl; fits = ((refl, tt), refl, tt) }, found_lib);
      cell = found_cell;
    }

view_ref_meant : (scope all : List design.Lib) (own : Option ℕ) (id : design.CellId) (c : design.CellBody) → IsScope scope all → design.cell_at scope id ≡ Some c →
    MeansViewRef scope own (make keywords.ViewRef (word (design.view_id all id) ∷ cell_ref_tree all id ∷ [])) id
view_ref_meant scope all own id c s e = record {
  spelled = design.view_id all id;
  cell_part = cell_ref_tree all id;
  form = record { spelled = codes "viewRef"; is = refl; keyword = refl; fits = ((refl, (refl, tt)), refl, tt) };
  cell = cell_ref_meant scope all own id c s e;
  view = ap (λ v. meant (v ∷ []) (design.view_id all id)) (view_name scope id c e) ∙ (ap (meant (c.view.id ∷ [])) (view_name all id c (cell_in_all scope all id c s e)) ∙ meant_self (c.view.id ∷ []) 0 c.view.id refl refl);
}

-- the placed cell is in scope
abbrev pub DefinedIn : List design.Lib → design.Inst → Type 0
DefinedIn scope i = IsSome (design.cell_at scope i.of)

inst_meant : (scope all : List design.Lib) (o : Option ℕ) (i : design.Inst) → IsScope scope all → ValidInst all i × DefinedIn scope i → MeansInst scope o (inst_tree all i) i
inst_meant scope all o i s h =
    let c = some_of (design.cell_at scope i.of) h.1 in
    let gs : List (Keyword × List Bare) = (keywords.Designator, perhaps (text_tree keywords.Designator) i.designator) ∷ (keywords.Property, map property_tree i.properties) ∷ [] in
    let grouped : Grouped gs = (option_group keywords.Designator (text_tree keywords.Designator) i.designator (λ x. refl), (group_of keywords.Property property_tree i.properties (λ x. refl), tt)) in
    record {
      name_part = name_tree i.name;
      view_part = make keywords.ViewRef (word (design.view_id all i.of) ∷ cell_ref_tree all i.of ∷ []);
      inner = joined gs;
      form = record {
        spelled = codes "instance";
        is = refl;
        keyword = refl;
        fits = (
          (name_fits i.name.id i.name.shown, (refl, tt)),
          joined_follows (One keywords.Designator ∷ Many keywords.Property ∷ Many keywords.Comment ∷ Many keywords.UserData ∷ []) gs refl grouped,
          (rw (those_joined keywords.Designator gs grouped) (at_most_one (text_tree keywords.Designator) i.designator), tt),
        );
      };
      name = name_meant i.name.id i.name.shown;
      of = view_ref_meant scope all o i.of c.0 s c.1;
      designator = rw (those_joined keywords.Designator gs grouped) (perhaps_one (MeansText keywords.Designator) (text_tree keywords.Designator) i.designator (λ x. text_form keywords.Designator x refl ((refl, tt), refl, tt)));
      properties = rw (those_joined keywords.Property gs grouped) (properties_meant i.properties h.0.properties);
    }

-- the ports of each cell have different names
abbrev pub PortsDiffer : List design.Lib → Type 0
PortsDiffer libs = (id : design.CellId) (c : design.CellBody) → design.cell_at libs id ≡ Some c → distinct (design.port_ids c.ports) ≡ true

-- ends find their ports in a scope as among all libraries
ports_same : (scope all : List design.Lib) (own : List design.Port) (insts : List design.Inst) (o : Option ℕ) → IsScope scope all → AllByRecursion (DefinedIn scope) insts → ports_of_end all own insts o ≡ ports_of_end scope own insts o
ports_same scope all own insts None s h = refl
ports_same scope all own insts (Some i) s h = go (slice_get insts i) refl
  where
    go : (o : Option design.Inst) → slice_get insts i ≡ o → unwrap_or (option_map (λ x. design.ports_at all x.of) o) [] ≡ unwrap_or (option_map (λ x. design.ports_at scope x.of) o) []
    go None e = refl
    go (Some x) e = let c = some_of (design.cell_at scope x.of) (all_at (DefinedIn scope) insts i x h e) in
        ports_there all x.of c.0 (cell_in_all scope all x.of c.0 s c.1) ∙ sym (ports_there scope x.of c.0 c.1)

ports_differ : (all : List design.Lib) (own : List design.Port) (insts : List design.Inst) (o : Option ℕ) → PortsDiffer all → distinct (design.port_ids own) ≡ true → AllByRecursion (λ i. IsSome (design.cell_at all i.of)) insts → IfSome o (λ i. i < length insts) → distinct (design.port_ids (ports_of_end all own insts o)) ≡ true
ports_differ all own insts None p d h l = d
ports_differ all own insts (Some i) p d h l =
    let x = get_there insts i l in
    let c = some_of (design.cell_at all x.0.of) (all_at (λ j. IsSome (design.cell_at all j.of)) insts i x.0 h x.1) in
    let there : ports_of_end all own insts (Some i) ≡ c.0.ports = ap (λ o. unwrap_or (option_map (λ (y : design.Inst). design.ports_at all y.of) o) []) x.1 ∙ ports_there all x.0.of c.0 c.1 in
    ap (λ v. distinct (design.port_ids v)) there ∙ p x.0.of c.0 c.1

-- what a stretch covers of a port
bit_fits : (n : List ℕ) (o : Option ℕ) (b : ℕ) → IsTrue (is_one_of (AnIdentifier ∷ AForm keywords.Member ∷ []) (bit_tree n o b))
bit_fits n None b = refl
bit_fits n (Some w) b = refl

bits_fit : (array : Option ℕ) (p : design.Port) (b : ℕ) → IsTrue (is_one_of (AnIdentifier ∷ AForm keywords.Member ∷ []) (bits_tree array (Some p) b))
bits_fit None p b = bit_fits p.name.id p.array b
bits_fit (Some n) p b = refl

one_bit : (ports : List design.Port) (i b v : ℕ) (name : List ℕ) (array : Option ℕ) → meant (design.port_ids ports) name ≡ Found i → width_at ports i ≡ unwrap_or array 1 → b < unwrap_or array 1 → v ≡ 1 → MeansBits ports (bit_tree name array b) i b v
one_bit ports i b v name None m w l o = inl (name, refl, m, (let z : b ≡ 0 = omega arith in z), o ∙ sym w)
one_bit ports i b v name (Some n) m w l o = inr (name, record { spelled = codes "member"; is = refl; keyword = refl; fits = ((refl, (refl, tt)), refl, tt) }, m, (rw w l), o)

bits_meant : (ports : List design.Port) (array : Option ℕ) (p : design.Port) (s : Stretch) → meant (design.port_ids ports) p.name.id ≡ Found s.port → width_at ports s.port ≡ design.port_width p → Covers array p s → MeansBits ports (bits_tree array (Some p) s.first) s.port s.first s.width
bits_meant ports None p s m w c = one_bit ports s.port s.first s.width p.name.id p.array m w c.0 c.1
bits_meant ports (Some n) p s m w c = inl (p.name.id, refl, m, c.0, c.1 ∙ (sym (ap (λ o. unwrap_or o 1) c.2) ∙ sym w))

-- the port that has a bit
bit_there : (ports : List design.Port) (port bit : ℕ) → HasBit ports port bit → (p : design.Port) × (slice_get ports port ≡ Some p) × (bit < design.port_width p)
bit_there ports port bit h = go (slice_get ports port) refl h
  where
    go : (o : Option design.Port) → slice_get ports port ≡ o → IsSomeAnd o (λ p. bit < design.port_width p) → (p : design.Port) × (slice_get ports port ≡ Some p) × (bit < design.port_width p)
    go None e k = absurd k
    go (Some p) e k = (p, e, k)

pub record ContentsScope (scope all : List design.Lib) (own : List design.Port) (insts : List design.Inst) : Type 0 where
  pub within : IsScope scope all
  pub defined : AllByRecursion (DefinedIn scope) insts
  pub there : AllByRecursion (λ i. IsSome (design.cell_at all i.of)) insts
  pub ports : PortsDiffer all
  pub own_ports : distinct (design.port_ids own) ≡ true
  pub names : distinct (design.inst_ids insts) ≡ true

inst_ref_meant : (insts : List design.Inst) (o : Option ℕ) → distinct (design.inst_ids insts) ≡ true → IfSome o (λ i. i < length insts) → Perhaps (MeansInstRef insts) (perhaps (λ i. make keywords.InstanceRef (word (design.inst_id insts i) ∷ [])) o) o
inst_ref_meant insts None d l = tt
inst_ref_meant insts (Some i) d l =
    let x = get_there insts i l in
    let n : design.inst_id insts i ≡ x.0.name.id = ap (λ o. unwrap_or (option_map (λ (y : design.Inst). y.name.id) o) []) x.1 in (
      design.inst_id insts i,
      record { spelled = codes "instanceRef"; is = refl; keyword = refl; fits = ((refl, tt), refl, tt) },
      ap (meant (design.inst_ids insts)) n ∙ meant_self (design.inst_ids insts) i x.0.name.id d (get_mapped (λ (y : design.Inst). y.name.id) insts i x.0 x.1),
    )

-- a stretch of a net with or without an array, at a port that is there and at an instance that is there
pub record ValidStretch (all : List design.Lib) (own : List design.Port) (insts : List design.Inst) (array : Option ℕ) (s : Stretch) : Type 0 where
  pub inst : IfSome s.inst (λ i. i < length insts)
  pub placed : IsPlacedStretch (ports_of_end all own insts) array s

end_meant : (scope all : List design.Lib) (own : List design.Port) (insts : List design.Inst) (array : Option ℕ) (e : Stretch) → ContentsScope scope all own insts → ValidStretch all own insts array e → MeansEnd scope own insts (end_tree all own insts array e) e
end_meant scope all own insts array e s h =
    let ports = ports_of_end all own insts e.inst in
    let p = h.placed.port in
    let there : slice_get ports e.port ≡ Some p = h.placed.there in
    let same_ports : ports ≡ ports_of_end scope own insts e.inst = ports_same scope all own insts e.inst s.within s.defined in
    let gs : List (Keyword × List Bare) = (keywords.InstanceRef, perhaps (λ i. make keywords.InstanceRef (word (design.inst_id insts i) ∷ [])) e.inst) ∷ [] in
    let grouped : Grouped gs = (option_group keywords.InstanceRef (λ i. make keywords.InstanceRef (word (design.inst_id insts i) ∷ [])) e.inst (λ x. refl), tt) in
    let tree : bits_tree array (Some p) e.first ≡ bits_tree array (slice_get ports e.port) e.first = sym (ap (λ o. bits_tree array o e.first) there) in
    let T : Bare → Type 0 = λ v. MeansBits ports v e.port e.first e.width in
    let F : Bare → Type 0 = λ v. IsTrue (is_one_of (AnIdentifier ∷ AForm keywords.Member ∷ []) v) in
    let U : List design.Port → Type 0 = λ v. MeansBits v (bits_tree array (slice_get ports e.port) e.first) e.port e.first e.width in
    let named : meant (design.port_ids ports) p.name.id ≡ Found e.port = meant_self (design.port_ids ports) e.port p.name.id (ports_differ all own insts e.inst s.ports s.own_ports s.there h.inst) (get_mapped (λ (y : design.Port). y.name.id) ports e.port p there) in
    let width : width_at ports e.port ≡ design.port_width p = ap (λ o. unwrap_or (option_map design.port_width o) 0) there in
    record {
      bits_part = bits_tree array (slice_get ports e.port) e.first;
      inner = joined gs;
      form = record {
        spelled = codes "portRef";
        is = refl;
        keyword = refl;
        fits = (
          (subst F tree (bits_fit array p e.first), tt),
          joined_follows (One keywords.InstanceRef ∷ []) gs refl grouped,
          (rw (those_joined keywords.InstanceRef gs grouped) (at_most_one (λ i. make keywords.InstanceRef (word (design.inst_id insts i) ∷ [])) e.inst), tt),
        );
      };
      inst = rw (those_joined keywords.InstanceRef gs grouped) (inst_ref_meant insts e.inst s.names h.inst);
      bits = subst U same_ports (subst T tree (bits_meant ports array p e named width h.placed.covers));
    }

-- a form of a net that can be written
pub record ValidForm (all : List design.Lib) (own : List design.Port) (insts : List design.Inst) (n : NetForm) : Type 0 where
  pub array : IfSome n.array IsWidth
  pub joined : AllByRecursion (ValidStretch all own insts n.array) n.joined
  pub properties : ValidProperties n.properties

as_wide : (ports : Option ℕ → List design.Port) (array : Option ℕ) (s : Stretch) → IsPlacedStretch ports array s → s.width ≡ row_size array
as_wide ports None s h = h.covers.1
as_wide ports (Some n) s h = h.covers.1

net_meant : (scope all : List design.Lib) (own : List design.Port) (insts : List design.Inst) (n : NetForm) → ContentsScope scope all own insts → ValidForm all own insts n → MeansNet scope own insts (net_tree all own insts n) n
net_meant scope all own insts n s h =
    let gs : List (Keyword × List Bare) = (keywords.Property, map property_tree n.properties) ∷ [] in
    let grouped : Grouped gs = (group_of keywords.Property property_tree n.properties (λ x. refl), tt) in
    let es : List (Keyword × List Bare) = (keywords.PortRef, map (end_tree all own insts n.array) n.joined) ∷ [] in
    let ends_grouped : Grouped es = (group_of keywords.PortRef (end_tree all own insts n.array) n.joined (λ x. refl), tt) in
    record {
      name_part = port_name_tree n.name n.array;
      joined_part = make keywords.Joined (map (end_tree all own insts n.array) n.joined);
      refs = map (end_tree all own insts n.array) n.joined;
      inner = joined gs;
      form = record { spelled = codes "net"; is = refl; keyword = refl; fits = ((port_name_fits n.name.id n.name.shown n.array, (refl, tt)), joined_follows (Many keywords.Property ∷ Many keywords.Comment ∷ Many keywords.UserData ∷ []) gs refl grouped, tt) };
      joined = record { spelled = codes "joined"; is = refl; keyword = refl; fits = (tt, joined_follows (Many keywords.PortRef ∷ []) es refl ends_grouped, tt) };
      name = port_name_meant n.name n.array h.array;
      ends = each_map (ValidStretch all own insts n.array) (MeansEnd scope own insts) (end_tree all own insts n.array) n.joined h.joined (λ e v. end_meant scope all own insts n.array e s v);
      wide = all_weaker (ValidStretch all own insts n.array) (λ (x : Stretch). x.width ≡ row_size n.array) n.joined (λ x v. as_wide (ports_of_end all own insts) n.array x v.placed) h.joined;
      properties = rw (those_joined keywords.Property gs grouped) (properties_meant n.properties h.properties);
    }

-- the forms of valid nets
has_port : (all : List design.Lib) (ports : List design.Port) (insts : List design.Inst) (e : design.End) → ValidEnd all ports insts e → HasPort (ports_of_end all ports insts) e
has_port all ports insts e v = bit_there (ports_of_end all ports insts e.inst) e.port e.bit v.bit

stretches_valid : (all : List design.Lib) (ports : List design.Port) (insts : List design.Inst) (array : Option ℕ) (ss : List Stretch) → AllByRecursion (IsPlacedStretch (ports_of_end all ports insts) array) ss
    → AllByRecursion (λ (s : Stretch). (e : design.End) × (e.inst ≡ s.inst) × ValidEnd all ports insts e) ss → AllByRecursion (ValidStretch all ports insts array) ss
stretches_valid all ports insts array [] h k = tt
stretches_valid all ports insts array (s ∷ ss) h k =
    let P : Option ℕ → Type 0 = λ o. IfSome o (λ i. i < length insts) in
    (record { inst = subst P k.0.1 k.0.2.inst; placed = h.0 }, stretches_valid all ports insts array ss h.1 k.1)

forms_valid : (all : List design.Lib) (ports : List design.Port) (insts : List design.Inst) (fs : List NetForm) → AllByRecursion (IsPlacedForm (ports_of_end all ports insts) (ValidEnd all ports insts)) fs → AllByRecursion (λ (f : NetForm). ValidProperties f.properties) fs → AllByRecursion (ValidForm all ports insts) fs
forms_valid all ports insts [] h k = tt
forms_valid all ports insts (f ∷ fs) h k = (record { array = h.0.array; joined = stretches_valid all ports insts f.array f.joined h.0.joined h.0.known; properties = k.0 }, forms_valid all ports insts fs h.1 k.1)

written_valid : (all : List design.Lib) (ports : List design.Port) (insts : List design.Inst) (nets : List design.Net) → AllByRecursion (ValidNet all ports insts) nets → AllByRecursion (ValidForm all ports insts) (net_forms (ports_of_end all ports insts) nets)
written_valid all ports insts nets h =
    forms_valid all ports insts (net_forms (ports_of_end all ports insts) nets)
    (forms_placed (ports_of_end all ports insts) (ValidEnd all ports insts) 0 nets
    (all_weaker (ValidNet all ports insts) (λ (n : design.Net). AllByRecursion (HasPort (ports_of_end all ports insts)) n.ends) nets (λ n v. all_weaker (ValidEnd all ports insts) (HasPort (ports_of_end all ports insts)) n.ends (has_port all ports insts) v.ends) h)
    (all_weaker (ValidNet all ports insts) (λ (n : design.Net). AllByRecursion (ValidEnd all ports insts) n.ends) nets (λ n v. v.ends) h))
    (forms_properties (ports_of_end all ports insts) ValidProperties 0 nets (all_weaker (ValidNet all ports insts) (λ (n : design.Net). ValidProperties n.properties) nets (λ n v. v.properties) h))

pub contents_meant : (scope all : List design.Lib) (o : Option ℕ) (ports : List design.Port) (c : design.Contents) → IsScope scope all → PortsDiffer all → distinct (design.port_ids ports) ≡ true → AllByRecursion (DefinedIn scope) c.insts → ValidContents all ports c → MeansContents scope o ports (contents_tree all ports c) c
contents_meant scope all o ports c s p d f h =
    let cs : ContentsScope scope all ports c.insts = record { within = s; defined = f; there = all_weaker (ValidInst all) (λ i. IsSome (design.cell_at all i.of)) c.insts (λ x v. v.of) h.insts; ports = p; own_ports = d; names = h.inst_names } in
    let fs : List NetForm = net_forms (ports_of_end all ports c.insts) c.nets in
    let gs : List (Keyword × List Bare) = (keywords.Instance, map (inst_tree all) c.insts) ∷ (keywords.Net, map (net_tree all ports c.insts) fs) ∷ [] in
    let grouped : Grouped gs = (group_of keywords.Instance (inst_tree all) c.insts (λ x. refl), (group_of keywords.Net (net_tree all ports c.insts) fs (λ x. refl), tt)) in
    record {
      inner = joined gs;
      form = record { spelled = codes "contents"; is = refl; keyword = refl; fits = (tt, joined_follows (Many keywords.Instance ∷ Many keywords.Net ∷ Many keywords.Comment ∷ Many keywords.UserData ∷ []) gs refl grouped, tt) };
      insts = rw (those_joined keywords.Instance gs grouped) (each_map (λ i. ValidInst all i × DefinedIn scope i) (MeansInst scope o) (inst_tree all) c.insts (zip_all (ValidInst all) (DefinedIn scope) c.insts h.insts f) (λ i v. inst_meant scope all o i s v));
      rows = fs;
      written = rw (those_joined keywords.Net gs grouped) (each_map (ValidForm all ports c.insts) (MeansNet scope ports c.insts) (net_tree all ports c.insts) fs (written_valid all ports c.insts c.nets h.nets) (λ n v. net_meant scope all ports c.insts n cs v));
      nets = sym (forms_are_nets (ports_of_end all ports c.insts) c.nets);
    }
