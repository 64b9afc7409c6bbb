-- A tree means one design at most: from interfaces to whole files.
use Rattle.std.proofs.Common.{◌≡◌, ℕ, pos, List, [], ◌∷◌, ◌++◌, length, refl, ap, sym, ◌∙◌, subst, inl, inr, Bool, true, false, Option, Some, None}
use Rattle.std.specs.Prelude.{IfNone, filter, slice_get}
use Rattle.edif_spelling_spec.specs.Tree.{Bare, form, word, integer}
use Rattle.edif_spec.specs.Keyword.{same}
use Rattle.edif_spec.specs.Rows.{those, IsFormOf, Each, Perhaps, EachAfter, Just}
use Rattle.edif_spec.specs.Means.{MeansName, MeansText, MeansProperty, MeansPort, MeansInterface, MeansLibraryRef, MeansCellRef, MeansViewRef, MeansBusName, MeansInst, MeansInstRef, MeansBits, MeansEnd, MeansNet, MeansContents, MeansView, MeansKind, MeansCell, MeansLibrary, MeansPath, MeansNote, MeansDesign, MeansFile, Found, meant, width_at, is_library, libs_before_design, is_note}
use Rattle.netlist_schema.specs.declared.cell.CellKind.TheVariants as kinds
use Rattle.edif_spec.specs.declared.keyword.Keyword.TheVariants as keywords
use Rattle.edif_spec.specs.Canonical.{kind_word, ports_of_end, library_keyword}
use Rattle.edif_spec.specs.Design as design
use Rattle.edif_spec.specs.Nets.{NetForm, Stretch, nets_of}
use Rattle.std.specs.List.{flat_map}
use Rattle.edif_spec.proofs.Groups.{same_left}
use Rattle.edif_spec.proofs.Once.{one_form, each_once, each_after_once, back, lists_back, other_keyword, word_no_form, name_once, port_name_once, text_once, first_of, perhaps_same, each_same, property_once, properties_once, port_once, same_arguments}

interface_once : (t : Bare) (c d : design.CellBody) → MeansInterface t c → MeansInterface t d → (c.ports ≡ d.ports) × (c.interface_properties ≡ d.interface_properties)
interface_once t c d h k =
    let e = one_form keywords.Interface t [] [] h.inner k.inner h.form k.form in
    (each_same MeansPort port_once keywords.Port h.inner k.inner c.ports d.ports e.1 h.ports k.ports, properties_once h.inner k.inner c.interface_properties d.interface_properties e.1 h.properties k.properties)

found : (i j : ℕ) → Found i ≡ Found j → i ≡ j
found i j e = cc e

-- references
pub library_ref_once : (libs : List design.Lib) (own : Option ℕ) (ts : List Bare) (l m : ℕ) → MeansLibraryRef libs own ts l → MeansLibraryRef libs own ts m → l ≡ m
library_ref_once libs own [] l m h k = let e : Some l ≡ Some m = sym h ∙ k in cc e
library_ref_once libs own (t ∷ []) l m h k =
    let e = one_form keywords.LibraryRef t (word h.0 ∷ []) (word k.0 ∷ []) [] [] h.1 k.1 in
    let w : word h.0 ∷ [] ≡ word k.0 ∷ [] = e.0 in let a : h.0 ≡ k.0 = cc w in
    found l m (sym h.2 ∙ (ap (meant (design.lib_ids libs)) a ∙ k.2))
library_ref_once libs own (t ∷ u ∷ ts) l m h k = absurd h

pub cell_ref_once : (libs : List design.Lib) (own : Option ℕ) (t : Bare) (x y : design.CellId) → MeansCellRef libs own t x → MeansCellRef libs own t y → x ≡ y
cell_ref_once libs own t x y h k =
    let e = one_form keywords.CellRef t (word h.spelled ∷ []) (word k.spelled ∷ []) h.inner k.inner h.form k.form in
    let w : word h.spelled ∷ [] ≡ word k.spelled ∷ [] = e.0 in let a : h.spelled ≡ k.spelled = cc w in
    let l : x.lib.0 ≡ y.lib.0 = library_ref_once libs own (those keywords.LibraryRef h.inner) x.lib.0 y.lib.0 h.lib (lists_back (λ v. MeansLibraryRef libs own (those keywords.LibraryRef v) y.lib.0) e.1 k.lib) in
    let s : x.slot ≡ y.slot = found x.slot y.slot (sym h.cell ∙ (ap (λ n. meant (design.cell_ids libs n) h.spelled) l ∙ (ap (meant (design.cell_ids libs y.lib.0)) a ∙ k.cell))) in
    λ i. record { lib = record { 0 = l i }; slot = s i }

pub view_ref_once : (libs : List design.Lib) (own : Option ℕ) (t : Bare) (x y : design.CellId) → MeansViewRef libs own t x → MeansViewRef libs own t y → x ≡ y
view_ref_once libs own t x y h k =
    let e = one_form keywords.ViewRef t (word h.spelled ∷ h.cell_part ∷ []) (word k.spelled ∷ k.cell_part ∷ []) [] [] h.form k.form in
    let w : word h.spelled ∷ h.cell_part ∷ [] ≡ word k.spelled ∷ k.cell_part ∷ [] = e.0 in let a : h.cell_part ≡ k.cell_part = cc w in
    cell_ref_once libs own h.cell_part x y h.cell (back (λ v. MeansCellRef libs own v y) a k.cell)

pub inst_once : (libs : List design.Lib) (own : Option ℕ) (t : Bare) (x y : design.Inst) → MeansInst libs own t x → MeansInst libs own t y → x ≡ y
inst_once libs own t x y h k =
    let e = one_form keywords.Instance t (h.name_part ∷ h.view_part ∷ []) (k.name_part ∷ k.view_part ∷ []) h.inner k.inner h.form k.form in
    let w : h.name_part ∷ h.view_part ∷ [] ≡ k.name_part ∷ k.view_part ∷ [] = e.0 in
    let a : h.name_part ≡ k.name_part = cc w in let b : h.view_part ≡ k.view_part = cc w in
    let n : x.name ≡ y.name = name_once h.name_part x.name y.name h.name (back (λ v. MeansName v y.name) a k.name) in
    let o : x.of ≡ y.of = view_ref_once libs own h.view_part x.of y.of h.of (back (λ v. MeansViewRef libs own v y.of) b k.of) in
    let s : x.designator ≡ y.designator = perhaps_same (MeansText keywords.Designator) (text_once keywords.Designator) keywords.Designator h.inner k.inner x.designator y.designator e.1 h.designator k.designator in
    let ps : x.properties ≡ y.properties = properties_once h.inner k.inner x.properties y.properties e.1 h.properties k.properties in
    λ i. record { name = n i; of = o i; designator = s i; properties = ps i }

pub inst_ref_once : (insts : List design.Inst) (t : Bare) (i j : ℕ) → MeansInstRef insts t i → MeansInstRef insts t j → i ≡ j
inst_ref_once insts t i j h k =
    let e = one_form keywords.InstanceRef t (word h.0 ∷ []) (word k.0 ∷ []) [] [] h.1 k.1 in
    let w : word h.0 ∷ [] ≡ word k.0 ∷ [] = e.0 in let a : h.0 ≡ k.0 = cc w in
    found i j (sym h.2 ∙ (ap (meant (design.inst_ids insts)) a ∙ k.2))

bits_once : (ports : List design.Port) (t : Bare) (p q b c v w : ℕ) → MeansBits ports t p b v → MeansBits ports t q c w → (p ≡ q) × (b ≡ c) × (v ≡ w)
bits_once ports t p q b c v w (inl h) (inl k) =
    let s : word h.0 ≡ word k.0 = sym h.1 ∙ k.1 in let a : h.0 ≡ k.0 = cc s in
    let n : p ≡ q = found p q (sym h.2 ∙ (ap (meant (design.port_ids ports)) a ∙ k.2)) in
    (n, h.3 ∙ sym k.3, h.4 ∙ (ap (width_at ports) n ∙ sym k.4))
bits_once ports t p q b c v w (inl h) (inr k) = absurd (word_no_form keywords.Member t h.0 (word k.0 ∷ integer (pos c) ∷ []) [] h.1 k.1)
bits_once ports t p q b c v w (inr h) (inl k) = absurd (word_no_form keywords.Member t k.0 (word h.0 ∷ integer (pos b) ∷ []) [] k.1 h.1)
bits_once ports t p q b c v w (inr h) (inr k) =
    let e = one_form keywords.Member t (word h.0 ∷ integer (pos b) ∷ []) (word k.0 ∷ integer (pos c) ∷ []) [] [] h.1 k.1 in
    let s : word h.0 ∷ integer (pos b) ∷ [] ≡ word k.0 ∷ integer (pos c) ∷ [] = e.0 in let a : h.0 ≡ k.0 = cc s in let d : b ≡ c = cc s in
    (found p q (sym h.2 ∙ (ap (meant (design.port_ids ports)) a ∙ k.2)), d, h.4 ∙ sym k.4)

pub end_once : (libs : List design.Lib) (ports : List design.Port) (insts : List design.Inst) (t : Bare) (x y : Stretch) → MeansEnd libs ports insts t x → MeansEnd libs ports insts t y → x ≡ y
end_once libs ports insts t x y h k =
    let e = one_form keywords.PortRef t (h.bits_part ∷ []) (k.bits_part ∷ []) h.inner k.inner h.form k.form in
    let n : x.inst ≡ y.inst = perhaps_same (MeansInstRef insts) (inst_ref_once insts) keywords.InstanceRef h.inner k.inner x.inst y.inst e.1 h.inst k.inst in
    let P : Option ℕ → Type 0 = λ v. MeansBits (ports_of_end libs ports insts v) h.bits_part y.port y.first y.width in
    let b = bits_once (ports_of_end libs ports insts x.inst) h.bits_part x.port y.port x.first y.first x.width y.width h.bits (subst P (sym n) (back (λ v. MeansBits (ports_of_end libs ports insts y.inst) v y.port y.first y.width) (first_of e.0) k.bits)) in
    λ i. record { inst = n i; port = b.0 i; first = b.1 i; width = b.2 i }

pub net_once : (libs : List design.Lib) (ports : List design.Port) (insts : List design.Inst) (t : Bare) (x y : NetForm) → MeansNet libs ports insts t x → MeansNet libs ports insts t y → x ≡ y
net_once libs ports insts t x y h k =
    let e = one_form keywords.Net t (h.name_part ∷ h.joined_part ∷ []) (k.name_part ∷ k.joined_part ∷ []) h.inner k.inner h.form k.form in
    let w : h.name_part ∷ h.joined_part ∷ [] ≡ k.name_part ∷ k.joined_part ∷ [] = e.0 in
    let a : h.name_part ≡ k.name_part = cc w in let b : h.joined_part ≡ k.joined_part = cc w in
    let n = port_name_once h.name_part x.name y.name x.array y.array h.name (back (λ v. MeansBusName v y.name y.array) a k.name) in
    let r = one_form keywords.Joined h.joined_part [] [] h.refs k.refs h.joined (back (λ v. IsFormOf keywords.Joined v [] k.refs) b k.joined) in
    let es : x.joined ≡ y.joined = each_once (MeansEnd libs ports insts) (end_once libs ports insts) h.refs x.joined y.joined h.ends (lists_back (λ v. Each (MeansEnd libs ports insts) v y.joined) r.1 k.ends) in
    let ps : x.properties ≡ y.properties = properties_once h.inner k.inner x.properties y.properties e.1 h.properties k.properties in
    λ i. record { name = n.0 i; array = n.1 i; joined = es i; properties = ps i }

pub contents_once : (libs : List design.Lib) (own : Option ℕ) (ports : List design.Port) (t : Bare) (x y : design.Contents) → MeansContents libs own ports t x → MeansContents libs own ports t y → x ≡ y
contents_once libs own ports t x y h k =
    let e = one_form keywords.Contents t [] [] h.inner k.inner h.form k.form in
    let n : x.insts ≡ y.insts = each_same (MeansInst libs own) (inst_once libs own) keywords.Instance h.inner k.inner x.insts y.insts e.1 h.insts k.insts in
    let P : List design.Inst → Type 0 = λ v. Each (MeansNet libs ports v) (those keywords.Net k.inner) k.rows in
    let r : h.rows ≡ k.rows = each_same (MeansNet libs ports x.insts) (net_once libs ports x.insts) keywords.Net h.inner k.inner h.rows k.rows e.1 h.written (subst P (sym n) k.written) in
    let m : x.nets ≡ y.nets = h.nets ∙ (ap (flat_map nets_of) r ∙ sym k.nets) in
    λ i. record { insts = n i; nets = m i }

-- what a view says of its cell
pub record SameView (c d : design.CellBody) : Type 0 where
  pub view : c.view ≡ d.view
  pub ports : c.ports ≡ d.ports
  pub interface_properties : c.interface_properties ≡ d.interface_properties
  pub view_properties : c.view_properties ≡ d.view_properties
  pub contents : c.contents ≡ d.contents

view_once : (libs : List design.Lib) (own : Option ℕ) (t : Bare) (c d : design.CellBody) → MeansView libs own t c → MeansView libs own t d → SameView c d
view_once libs own t c d h k =
    let e = one_form keywords.View t (h.name_part ∷ h.type_part ∷ h.interface_part ∷ []) (k.name_part ∷ k.type_part ∷ k.interface_part ∷ []) h.inner k.inner h.form k.form in
    let w : h.name_part ∷ h.type_part ∷ h.interface_part ∷ [] ≡ k.name_part ∷ k.type_part ∷ k.interface_part ∷ [] = e.0 in
    let a : h.name_part ≡ k.name_part = cc w in let b : h.interface_part ≡ k.interface_part = cc w in
    let f = interface_once h.interface_part c d h.interface (back (λ v. MeansInterface v d) b k.interface) in
    let P : List design.Port → Type 0 = λ v. Perhaps (MeansContents libs own v) (those keywords.Contents k.inner) d.contents in
    record {
      view = name_once h.name_part c.view d.view h.name (back (λ v. MeansName v d.view) a k.name);
      ports = f.0;
      interface_properties = f.1;
      view_properties = properties_once h.inner k.inner c.view_properties d.view_properties e.1 h.properties k.properties;
      contents = perhaps_same (MeansContents libs own c.ports) (contents_once libs own c.ports) keywords.Contents h.inner k.inner c.contents d.contents e.1 h.contents (subst P (sym f.0) k.contents);
    }

just_view : (libs : List design.Lib) (own : Option ℕ) (ts : List Bare) (c d : design.CellBody) → Just (λ v b. MeansView libs own v b) ts c → Just (λ v b. MeansView libs own v b) ts d → SameView c d
just_view libs own [] c d h k = absurd h
just_view libs own (t ∷ []) c d h k = view_once libs own t c d h k
just_view libs own (t ∷ u ∷ ts) c d h k = absurd h

kind_once : (t : Bare) (x y : design.CellKind) → MeansKind t x → MeansKind t y → x ≡ y
kind_once t x y h k =
    let e = one_form keywords.CellType t (word h.0 ∷ []) (word k.0 ∷ []) [] [] h.1 k.1 in
    let w : word h.0 ∷ [] ≡ word k.0 ∷ [] = e.0 in let f : h.0 ≡ k.0 = cc w in
    words x y (sym (same_left h.0 (kind_word x) (kind_word y) h.2) ∙ (ap (λ v. same v (kind_word y)) f ∙ k.2))
  where
    words : (x y : design.CellKind) → same (kind_word x) (kind_word y) ≡ true → x ≡ y
    words kinds.Generic kinds.Generic b = refl
    words kinds.Tie kinds.Tie b = refl
    words kinds.Ripper kinds.Ripper b = refl
    words kinds.Generic kinds.Tie b = absurd (cc b)
    words kinds.Generic kinds.Ripper b = absurd (cc b)
    words kinds.Tie kinds.Generic b = absurd (cc b)
    words kinds.Tie kinds.Ripper b = absurd (cc b)
    words kinds.Ripper kinds.Generic b = absurd (cc b)
    words kinds.Ripper kinds.Tie b = absurd (cc b)

pub cell_once : (libs : List design.Lib) (own : Option ℕ) (t : Bare) (c d : design.CellBody) → MeansCell libs own t c → MeansCell libs own t d → c ≡ d
cell_once libs own t c d h k =
    let e = one_form keywords.Cell t (h.name_part ∷ h.kind_part ∷ []) (k.name_part ∷ k.kind_part ∷ []) h.inner k.inner h.form k.form in
    let w : h.name_part ∷ h.kind_part ∷ [] ≡ k.name_part ∷ k.kind_part ∷ [] = e.0 in
    let a : h.name_part ≡ k.name_part = cc w in let b : h.kind_part ≡ k.kind_part = cc w in
    let n : c.name ≡ d.name = name_once h.name_part c.name d.name h.name (back (λ v. MeansName v d.name) a k.name) in
    let f : c.kind ≡ d.kind = kind_once h.kind_part c.kind d.kind h.kind (back (λ v. MeansKind v d.kind) b k.kind) in
    let v = just_view libs own (those keywords.View h.inner) c d h.view (lists_back (λ x. Just (λ u b. MeansView libs own u b) (those keywords.View x) d) e.1 k.view) in
    let ps : c.properties ≡ d.properties = properties_once h.inner k.inner c.properties d.properties e.1 h.properties k.properties in
    λ i. record { name = n i; kind = f i; properties = ps i; view = v.view i; view_properties = v.view_properties i; interface_properties = v.interface_properties i; ports = v.ports i; contents = v.contents i }

-- libraries, notes, the design and the file
pub library_once : (before : List design.Lib) (t : Bare) (x y : design.Lib) → MeansLibrary before t x → MeansLibrary before t y → x ≡ y
library_once before t x y h k = go x.head.external y.head.external refl refl h.form k.form
  where
    same_external : (e f : Bool) → IsFormOf (library_keyword e) t (h.name_part ∷ h.level_part ∷ h.technology_part ∷ []) h.inner → IsFormOf (library_keyword f) t (k.name_part ∷ k.level_part ∷ k.technology_part ∷ []) k.inner → e ≡ f
    same_external false false m n = refl
    same_external true true m n = refl
    same_external false true m n = absurd (other_keyword keywords.Library keywords.External t (h.name_part ∷ h.level_part ∷ h.technology_part ∷ []) (k.name_part ∷ k.level_part ∷ k.technology_part ∷ []) h.inner k.inner refl m n)
    same_external true false m n = absurd (other_keyword keywords.External keywords.Library t (h.name_part ∷ h.level_part ∷ h.technology_part ∷ []) (k.name_part ∷ k.level_part ∷ k.technology_part ∷ []) h.inner k.inner refl m n)

    go : (e f : Bool) → x.head.external ≡ e → y.head.external ≡ f → IsFormOf (library_keyword x.head.external) t (h.name_part ∷ h.level_part ∷ h.technology_part ∷ []) h.inner → IsFormOf (library_keyword y.head.external) t (k.name_part ∷ k.level_part ∷ k.technology_part ∷ []) k.inner → x ≡ y
    go e f a b m n =
        let ext : x.head.external ≡ y.head.external = same_external x.head.external y.head.external m n in
        let P : Bool → Type 0 = λ v. IsFormOf (library_keyword v) t (k.name_part ∷ k.level_part ∷ k.technology_part ∷ []) k.inner in
        let s = one_form (library_keyword x.head.external) t (h.name_part ∷ h.level_part ∷ h.technology_part ∷ []) (k.name_part ∷ k.level_part ∷ k.technology_part ∷ []) h.inner k.inner m (subst P (sym ext) n) in
        let w : h.name_part ∷ h.level_part ∷ h.technology_part ∷ [] ≡ k.name_part ∷ k.level_part ∷ k.technology_part ∷ [] = s.0 in
        let u : h.name_part ≡ k.name_part = cc w in
        let name : x.head.name ≡ y.head.name = name_once h.name_part x.head.name y.head.name h.name (back (λ v. MeansName v y.head.name) u k.name) in
        let head : x.head ≡ y.head = λ i. record { name = name i; external = ext i } in
        let Q : design.LibHead → Type 0 = λ v. EachAfter (λ cells. MeansCell (before ++ record { head = v; cells = cells } ∷ []) (Some (length before))) [] (those keywords.Cell k.inner) y.cells in
        let kc = subst Q (sym head) k.cells in
        let cells : x.cells ≡ y.cells = each_after_once (λ cells. MeansCell (before ++ record { head = x.head; cells = cells } ∷ []) (Some (length before))) (λ cells. cell_once (before ++ record { head = x.head; cells = cells } ∷ []) (Some (length before))) [] (those keywords.Cell h.inner) x.cells y.cells h.cells
        (lists_back (λ v. EachAfter (λ cells. MeansCell (before ++ record { head = x.head; cells = cells } ∷ []) (Some (length before))) [] (those keywords.Cell v) y.cells) s.1 kc) in
        λ i. record { head = head i; cells = cells i }

pub path_once : (libs : List design.Lib) (id : design.CellId) (ts : List Bare) (ns ms : List (List ℕ)) → MeansPath libs id ts ns → MeansPath libs id ts ms → ns ≡ ms
path_once libs id [] [] [] h k = refl
path_once libs id [] [] (m ∷ ms) h k = absurd k
path_once libs id [] (n ∷ ns) ms h k = absurd h
path_once libs id (t ∷ ts) [] ms h k = absurd h
path_once libs id (t ∷ ts) (n ∷ ns) [] h k = absurd k
path_once libs id (t ∷ ts) (n ∷ ns) (m ∷ ms) h k =
    let w : word h.0 ≡ word k.0 = sym h.3 ∙ k.3 in let a : h.0 ≡ k.0 = cc w in
    let i : h.1 ≡ k.1 = found h.1 k.1 (sym h.4 ∙ (ap (meant (design.inst_ids (design.insts_at libs id))) a ∙ k.4)) in
    let s : Some h.2 ≡ Some k.2 = sym h.5 ∙ (ap (slice_get (design.insts_at libs id)) i ∙ k.5) in
    let x : h.2 ≡ k.2 = cc s in
    let P : design.Inst → Type 0 = λ v. MeansPath libs v.of ts ms in
    let r : ns ≡ ms = path_once libs h.2.of ts ns ms h.7 (subst P (sym x) k.7) in
    let q : n ≡ m = h.6 ∙ (ap (λ v. v.name.id) x ∙ sym k.6) in
    cc

note_once : (libs : List design.Lib) (top : design.CellId) (t : Bare) (x y : design.Note) → MeansNote libs top t x → MeansNote libs top t y → x ≡ y
note_once libs top t x y h k =
    let w : word h.spelled ∷ word h.mark ∷ form (word h.path_word ∷ h.steps) ∷ h.property_part ∷ [] ≡ word k.spelled ∷ word k.mark ∷ form (word k.path_word ∷ k.steps) ∷ k.property_part ∷ [] =
    same_arguments (word h.spelled ∷ word h.mark ∷ form (word h.path_word ∷ h.steps) ∷ h.property_part ∷ []) (word k.spelled ∷ word k.mark ∷ form (word k.path_word ∷ k.steps) ∷ k.property_part ∷ []) (sym h.is ∙ k.is) in
    let f : form (word h.path_word ∷ h.steps) ≡ form (word k.path_word ∷ k.steps) = cc w in
    let g : word h.path_word ∷ h.steps ≡ word k.path_word ∷ k.steps = same_arguments (word h.path_word ∷ h.steps) (word k.path_word ∷ k.steps) f in
    let s : h.steps ≡ k.steps = cc g in
    let q : h.property_part ≡ k.property_part = cc w in
    let a : x.path ≡ y.path = path_once libs top h.steps x.path y.path h.path (lists_back (λ v. MeansPath libs top v y.path) s k.path) in
    let b : x.property ≡ y.property = property_once h.property_part x.property y.property h.property (back (λ v. MeansProperty v y.property) q k.property) in
    λ i. record { path = a i; property = b i }

-- A design's form means its head and its notes.
pub record SameTop (x y : design.TopHead) (ns ms : List design.Note) : Type 0 where
  pub head : x ≡ y
  pub notes : ns ≡ ms

design_once : (libs : List design.Lib) (t : Bare) (x y : design.TopHead) (ns ms : List design.Note) → MeansDesign libs ns t x → MeansDesign libs ms t y → SameTop x y ns ms
design_once libs t x y ns ms h k =
    let e = one_form keywords.Design t (h.name_part ∷ h.cell_part ∷ []) (k.name_part ∷ k.cell_part ∷ []) h.inner k.inner h.form k.form in
    let w : h.name_part ∷ h.cell_part ∷ [] ≡ k.name_part ∷ k.cell_part ∷ [] = e.0 in
    let a : h.name_part ≡ k.name_part = cc w in let b : h.cell_part ≡ k.cell_part = cc w in
    let n : x.name ≡ y.name = name_once h.name_part x.name y.name h.name (back (λ v. MeansName v y.name) a k.name) in
    let c : x.cell ≡ y.cell = cell_ref_once libs None h.cell_part x.cell y.cell h.cell (back (λ v. MeansCellRef libs None v y.cell) b k.cell) in
    let ps : x.properties ≡ y.properties = properties_once h.inner k.inner x.properties y.properties e.1 h.properties k.properties in
    let P : design.CellId → Type 0 = λ v. Each (MeansNote libs v) (filter is_note k.inner) ms in
    let m : ns ≡ ms = each_once (MeansNote libs x.cell) (note_once libs x.cell) (filter is_note h.inner) ns ms h.noted (lists_back (λ v. Each (MeansNote libs x.cell) (filter is_note v) ms) e.1 (subst P (sym c) k.noted)) in
    record { head = λ i. record { name = n i; cell = c i; properties = ps i }; notes = m }

top_once : (libs : List design.Lib) (ts : List Bare) (o p : Option design.TopHead) (ns ms : List design.Note) → Perhaps (MeansDesign libs ns) ts o → Perhaps (MeansDesign libs ms) ts p → IfNone o (ns ≡ []) → IfNone p (ms ≡ []) → (o ≡ p) × (ns ≡ ms)
top_once libs [] None None ns ms h k a b = (refl, a ∙ sym b)
top_once libs [] None (Some y) ns ms h k a b = absurd k
top_once libs [] (Some x) p ns ms h k a b = absurd h
top_once libs (t ∷ []) None p ns ms h k a b = absurd h
top_once libs (t ∷ []) (Some x) None ns ms h k a b = absurd k
top_once libs (t ∷ []) (Some x) (Some y) ns ms h k a b = let s = design_once libs t x y ns ms h k in (ap Some s.head, s.notes)
top_once libs (t ∷ u ∷ ts) o p ns ms h k a b = absurd h

pub file_once : (t : Bare) (x y : design.Design) → MeansFile t x → MeansFile t y → x ≡ y
file_once t x y h k =
    let e = one_form keywords.Edif t (h.name_part ∷ h.version_part ∷ h.level_part ∷ h.map_part ∷ []) (k.name_part ∷ k.version_part ∷ k.level_part ∷ k.map_part ∷ []) h.inner k.inner h.form k.form in
    let w : h.name_part ∷ h.version_part ∷ h.level_part ∷ h.map_part ∷ [] ≡ k.name_part ∷ k.version_part ∷ k.level_part ∷ k.map_part ∷ [] = e.0 in
    let a : h.name_part ≡ k.name_part = cc w in
    let n : x.title ≡ y.title = name_once h.name_part x.title y.title h.name (back (λ v. MeansName v y.title) a k.name) in
    let ls : x.libs ≡ y.libs = each_after_once MeansLibrary library_once [] (filter is_library h.inner) x.libs y.libs h.libs (lists_back (λ v. EachAfter MeansLibrary [] (filter is_library v) y.libs) e.1 k.libs) in
    let P : List design.Lib → Type 0 = λ v. Perhaps (MeansDesign (libs_before_design k.inner v) y.notes) (those keywords.Design k.inner) y.top in
    let kt = subst P (sym ls) k.top in
    let Q : List Bare → Type 0 = λ v. Perhaps (MeansDesign (libs_before_design v x.libs) y.notes) (those keywords.Design v) y.top in
    let tn = top_once (libs_before_design h.inner x.libs) (those keywords.Design h.inner) x.top y.top x.notes y.notes h.top (lists_back Q e.1 kt) h.valid.notes_need_top k.valid.notes_need_top in
    λ i. record { title = n i; libs = ls i; top = tn.0 i; notes = tn.1 i }
