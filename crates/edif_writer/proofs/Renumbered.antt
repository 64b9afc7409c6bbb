-- In the arranged design of a valid one each cell has the tree that it has in the design: names stay, and only ids change.
use Rattle.std.proofs.Common.{◌≡◌, ℕ, zero, suc, ◌+◌, List, [], ◌∷◌, ◌++◌, map, length, refl, ap, sym, ◌∙◌, Option, Some, None, arith, slice_get}
use Rattle.std.specs.Prelude.{codes, IsSome, option_map, unwrap_or, IfSome}
use Rattle.std.specs.List.{AllByRecursion}
use Rattle.std.proofs.lemmas.Option.{slice_get-map}
use Rattle.netlist_schema.proofs.Lists.{all_at, some_of}
use Rattle.edif_spelling_spec.specs.Tree.{Bare, word}
use Rattle.edif_spec.specs.Arranged.{order_of, orders_from, new_id, new_inst, new_contents, new_cell, new_cells, new_libs}
use Rattle.edif_spec.specs.Canonical.{make, perhaps, name_tree, text_tree, property_tree, cell_ref_tree, inst_tree, bits_tree, port_name_tree, ports_of_end, end_tree, net_tree, contents_tree, interface_tree, kind_word, cell_tree}
use Rattle.edif_spec.specs.Design as design
use Rattle.edif_spec.specs.Nets.{NetForm, Stretch, net_forms}
use Rattle.edif_spec.specs.declared.keyword.Keyword.TheVariants as keywords
use Rattle.edif_spec.proofs.Arrange.{AreWhole, cell_moved, libs_length}

-- the libraries of the arranged design
abbrev pub moved : List design.Lib → List design.Lib
moved libs = new_libs (orders_from 0 libs) 0 libs

-- there is a cell with the id
abbrev IsThere : List design.Lib → design.CellId → Type 0
IsThere libs id = IsSome (design.cell_at libs id)

lib_id_from : (orders : List (List ℕ)) (own : ℕ) (libs : List design.Lib) (place : ℕ) → design.lib_id (new_libs orders own libs) place ≡ design.lib_id libs place
lib_id_from orders own [] place = refl
lib_id_from orders own (l ∷ libs) zero = refl
lib_id_from orders own (l ∷ libs) (suc place) = lib_id_from orders (suc own) libs place

-- what a cell shows of itself stays
stays : {A : Type 0} (f : design.CellBody → A) (d : A) (libs : List design.Lib) (id : design.CellId) → AreWhole libs → IsThere libs id → ((c : design.CellBody) → f (new_cell (orders_from 0 libs) c) ≡ f c)
    → unwrap_or (option_map f (design.cell_at (moved libs) (new_id (orders_from 0 libs) id))) d ≡ unwrap_or (option_map f (design.cell_at libs id)) d
stays f d libs id whole there same =
    let c = some_of (design.cell_at libs id) there in
    ap (λ o. unwrap_or (option_map f o) d) (cell_moved libs id c.0 whole c.1) ∙ (same c.0 ∙ sym (ap (λ o. unwrap_or (option_map f o) d) c.1))

cell_id_stays : (libs : List design.Lib) (id : design.CellId) → AreWhole libs → IsThere libs id → design.cell_id (moved libs) (new_id (orders_from 0 libs) id) ≡ design.cell_id libs id
cell_id_stays libs id whole there = stays (λ (c : design.CellBody). c.name.id) [] libs id whole there (λ c. refl)

view_id_stays : (libs : List design.Lib) (id : design.CellId) → AreWhole libs → IsThere libs id → design.view_id (moved libs) (new_id (orders_from 0 libs) id) ≡ design.view_id libs id
view_id_stays libs id whole there = stays (λ (c : design.CellBody). c.view.id) [] libs id whole there (λ c. refl)

ports_stay : (libs : List design.Lib) (id : design.CellId) → AreWhole libs → IsThere libs id → design.ports_at (moved libs) (new_id (orders_from 0 libs) id) ≡ design.ports_at libs id
ports_stay libs id whole there = stays (λ (c : design.CellBody). c.ports) [] libs id whole there (λ c. refl)

pub cell_ref_stays : (libs : List design.Lib) (id : design.CellId) → AreWhole libs → IsThere libs id → cell_ref_tree (moved libs) (new_id (orders_from 0 libs) id) ≡ cell_ref_tree libs id
cell_ref_stays libs id whole there =
    ap (λ n. make keywords.CellRef (word n ∷ make keywords.LibraryRef (word (design.lib_id (moved libs) id.lib.0) ∷ []) ∷ [])) (cell_id_stays libs id whole there)
    ∙ ap (λ n. make keywords.CellRef (word (design.cell_id libs id) ∷ make keywords.LibraryRef (word n ∷ []) ∷ [])) (lib_id_from (orders_from 0 libs) 0 libs id.lib.0)

inst_stays : (libs : List design.Lib) (i : design.Inst) → AreWhole libs → IsThere libs i.of → inst_tree (moved libs) (new_inst (orders_from 0 libs) i) ≡ inst_tree libs i
inst_stays libs i whole there =
    let T : List ℕ → Bare → Bare = λ v r. make keywords.Instance (name_tree i.name ∷ make keywords.ViewRef (word v ∷ r ∷ []) ∷ (perhaps (text_tree keywords.Designator) i.designator ++ map property_tree i.properties)) in
    ap (λ v. T v (cell_ref_tree (moved libs) (new_id (orders_from 0 libs) i.of))) (view_id_stays libs i.of whole there) ∙ ap (T (design.view_id libs i.of)) (cell_ref_stays libs i.of whole there)

abbrev pub AreThere : List design.Lib → List design.Inst → Type 0
AreThere libs is = AllByRecursion (λ (i : design.Inst). IsSome (design.cell_at libs i.of)) is

insts_stay : (libs : List design.Lib) (is : List design.Inst) → AreWhole libs → AreThere libs is → map (inst_tree (moved libs)) (map (new_inst (orders_from 0 libs)) is) ≡ map (inst_tree libs) is
insts_stay libs [] whole there = refl
insts_stay libs (i ∷ is) whole there =
    ap (λ t. t ∷ map (inst_tree (moved libs)) (map (new_inst (orders_from 0 libs)) is)) (inst_stays libs i whole there.0) ∙ ap (λ ts. inst_tree libs i ∷ ts) (insts_stay libs is whole there.1)

inst_id_stays : (orders : List (List ℕ)) (is : List design.Inst) (place : ℕ) → design.inst_id (map (new_inst orders) is) place ≡ design.inst_id is place
inst_id_stays orders [] place = refl
inst_id_stays orders (i ∷ is) zero = refl
inst_id_stays orders (i ∷ is) (suc place) = inst_id_stays orders is place

-- ends are at the same ports
end_ports_stay : (libs : List design.Lib) (own : List design.Port) (is : List design.Inst) (o : Option ℕ) → AreWhole libs → AreThere libs is → ports_of_end (moved libs) own (map (new_inst (orders_from 0 libs)) is) o ≡ ports_of_end libs own is o
end_ports_stay libs own is None whole there = refl
end_ports_stay libs own is (Some place) whole there = ap (λ x. unwrap_or (option_map (λ (i : design.Inst). design.ports_at (moved libs) i.of) x) []) (slice_get-map (new_inst (orders_from 0 libs)) is place) ∙ go (slice_get is place) refl
  where
    go : (x : Option design.Inst) → slice_get is place ≡ x → unwrap_or (option_map (λ (i : design.Inst). design.ports_at (moved libs) i.of) (option_map (new_inst (orders_from 0 libs)) x)) [] ≡ unwrap_or (option_map (λ (i : design.Inst). design.ports_at libs i.of) x) []
    go None e = refl
    go (Some i) e = ports_stay libs i.of whole (all_at (λ (i : design.Inst). IsSome (design.cell_at libs i.of)) is place i there e)

inst_ref_stays : (orders : List (List ℕ)) (is : List design.Inst) (o : Option ℕ) → perhaps (λ i. make keywords.InstanceRef (word (design.inst_id (map (new_inst orders) is) i) ∷ [])) o ≡ perhaps (λ i. make keywords.InstanceRef (word (design.inst_id is i) ∷ [])) o
inst_ref_stays orders is None = refl
inst_ref_stays orders is (Some place) = ap (λ n. make keywords.InstanceRef (word n ∷ []) ∷ []) (inst_id_stays orders is place)

end_stays : (libs : List design.Lib) (own : List design.Port) (is : List design.Inst) (array : Option ℕ) (s : Stretch) → AreWhole libs → AreThere libs is
    → end_tree (moved libs) own (map (new_inst (orders_from 0 libs)) is) array s ≡ end_tree libs own is array s
end_stays libs own is array s whole there =
    ap (λ ports. make keywords.PortRef (bits_tree array (slice_get ports s.port) s.first ∷ perhaps (λ i. make keywords.InstanceRef (word (design.inst_id (map (new_inst (orders_from 0 libs)) is) i) ∷ [])) s.inst)) (end_ports_stay libs own is s.inst whole there)
    ∙ ap (λ refs. make keywords.PortRef (bits_tree array (slice_get (ports_of_end libs own is s.inst) s.port) s.first ∷ refs)) (inst_ref_stays (orders_from 0 libs) is s.inst)

ends_stay : (libs : List design.Lib) (own : List design.Port) (is : List design.Inst) (array : Option ℕ) (ss : List Stretch) → AreWhole libs → AreThere libs is
    → map (end_tree (moved libs) own (map (new_inst (orders_from 0 libs)) is) array) ss ≡ map (end_tree libs own is array) ss
ends_stay libs own is array [] whole there = refl
ends_stay libs own is array (s ∷ ss) whole there =
    ap (λ t. t ∷ map (end_tree (moved libs) own (map (new_inst (orders_from 0 libs)) is) array) ss) (end_stays libs own is array s whole there) ∙ ap (λ ts. end_tree libs own is array s ∷ ts) (ends_stay libs own is array ss whole there)

forms_stay : (libs : List design.Lib) (own : List design.Port) (is : List design.Inst) (fs : List NetForm) → AreWhole libs → AreThere libs is
    → map (net_tree (moved libs) own (map (new_inst (orders_from 0 libs)) is)) fs ≡ map (net_tree libs own is) fs
forms_stay libs own is [] whole there = refl
forms_stay libs own is (f ∷ fs) whole there =
    ap (λ ends. make keywords.Net (port_name_tree f.name f.array ∷ make keywords.Joined ends ∷ map property_tree f.properties) ∷ map (net_tree (moved libs) own (map (new_inst (orders_from 0 libs)) is)) fs) (ends_stay libs own is f.array f.joined whole there)
    ∙ ap (λ ts. net_tree libs own is f ∷ ts) (forms_stay libs own is fs whole there)

-- runs are told by the ports of ends, which are the same ones
nets_stay : (libs : List design.Lib) (own : List design.Port) (is : List design.Inst) (ns : List design.Net) → AreWhole libs → AreThere libs is
    → map (net_tree (moved libs) own (map (new_inst (orders_from 0 libs)) is)) (net_forms (ports_of_end (moved libs) own (map (new_inst (orders_from 0 libs)) is)) ns) ≡ map (net_tree libs own is) (net_forms (ports_of_end libs own is) ns)
nets_stay libs own is ns whole there =
    let ports : ports_of_end (moved libs) own (map (new_inst (orders_from 0 libs)) is) ≡ ports_of_end libs own is = λ i o. end_ports_stay libs own is o whole there i in
    ap (λ p. map (net_tree (moved libs) own (map (new_inst (orders_from 0 libs)) is)) (net_forms p ns)) ports ∙ forms_stay libs own is (net_forms (ports_of_end libs own is) ns) whole there

contents_stay : (libs : List design.Lib) (own : List design.Port) (o : Option design.Contents) → AreWhole libs → IfSome o (λ c. AreThere libs c.insts) → perhaps (contents_tree (moved libs) own) (option_map (new_contents (orders_from 0 libs)) o) ≡ perhaps (contents_tree libs own) o
contents_stay libs own None whole there = refl
contents_stay libs own (Some c) whole there =
    let is = map (new_inst (orders_from 0 libs)) c.insts in
    ap (λ ts. make keywords.Contents (ts ++ map (net_tree (moved libs) own is) (net_forms (ports_of_end (moved libs) own is) c.nets)) ∷ []) (insts_stay libs c.insts whole there)
    ∙ ap (λ ts. make keywords.Contents (map (inst_tree libs) c.insts ++ ts) ∷ []) (nets_stay libs own c.insts c.nets whole there)

-- a cell has the tree that it had
pub cell_stays : (libs : List design.Lib) (c : design.CellBody) → AreWhole libs → IfSome c.contents (λ x. AreThere libs x.insts) → cell_tree (moved libs) (new_cell (orders_from 0 libs) c) ≡ cell_tree libs c
cell_stays libs c whole there =
    ap (λ inside. make keywords.Cell (name_tree c.name ∷ make keywords.CellType (word (kind_word c.kind) ∷ []) ∷ (map property_tree c.properties
    ++ make keywords.View (name_tree c.view ∷ make keywords.ViewType (word (codes "NETLIST") ∷ []) ∷ interface_tree c ∷ (map property_tree c.view_properties ++ inside)) ∷ [])))
    (contents_stay libs c.ports c.contents whole there)

-- the arranged design has as many libraries
pub moved_length : (libs : List design.Lib) → length (moved libs) ≡ length libs
moved_length libs = libs_length (orders_from 0 libs) 0 libs

-- its libraries, by their places
lib_from : (orders : List (List ℕ)) (own : ℕ) (libs : List design.Lib) (i : ℕ) (n : design.Lib) → slice_get (new_libs orders own libs) i ≡ Some n
    → (l : design.Lib) × (slice_get libs i ≡ Some l) × (n ≡ record { head = l.head; cells = new_cells orders l.cells (order_of (own + i) l.cells) })
lib_from orders own [] i n e = absurd (cc e)
lib_from orders own (x ∷ libs) zero n e =
    let z : own ≡ own + 0 = omega arith in
    let w : record { head = x.head; cells = new_cells orders x.cells (order_of own x.cells) } ≡ n = cc e in
    (x, refl, sym w ∙ ap (λ k. record { head = x.head; cells = new_cells orders x.cells (order_of k x.cells) }) z)
lib_from orders own (x ∷ libs) (suc i) n e =
    let r = lib_from orders (suc own) libs i n e in
    let z : suc own + i ≡ own + suc i = omega arith in
    (r.0, r.1, r.2 ∙ ap (λ k. record { head = r.0.head; cells = new_cells orders r.0.cells (order_of k r.0.cells) }) z)

pub moved_lib : (libs : List design.Lib) (i : ℕ) (n : design.Lib) → slice_get (moved libs) i ≡ Some n
    → (l : design.Lib) × (slice_get libs i ≡ Some l) × (n ≡ record { head = l.head; cells = new_cells (orders_from 0 libs) l.cells (order_of i l.cells) })
moved_lib libs i n e =
    let r = lib_from (orders_from 0 libs) 0 libs i n e in
    let z : 0 + i ≡ i = omega arith in
    (r.0, r.1, r.2 ∙ ap (λ k. record { head = r.0.head; cells = new_cells (orders_from 0 libs) r.0.cells (order_of k r.0.cells) }) z)
