-- What passes the test of designs is valid.
use Rattle.std.proofs.Common.{◌≡◌, ◌≢◌, ℕ, zero, suc, ◌+◌, ◌<◌, ◌≤◌, List, [], ◌∷◌, map, length, refl, ap, sym, ◌∙◌, subst, Bool, true, false, not, Option, Some, None, arith, slice_get}
use Rattle.std.specs.Prelude.{◌&&◌, ◌||◌, Decides, IsSomeAnd, IfSome, IfNone, is_some, nat_lt, nat_le, nat_eq}
use Rattle.std.specs.Cmp.Lexicographic.{pointwise}
use Rattle.std.specs.List.{All, AllByRecursion, Contains, list_all, list_any, sum_by}
use Rattle.std.specs.Option.{option_map_or}
use Rattle.std.proofs.lemmas.Bool.{and_parts, eq-eqb, eqb-true, ltb-true, leb-true}
use Rattle.std.proofs.lemmas.List.{length-map}
use Rattle.std.proofs.lemmas.List.Elements.{All-from_recursion}
use Rattle.std.proofs.lemmas.Slice.Eq.{slice_eq-Decides}
use Rattle.netlist_schema.specs.Design.{Design, insts_of, nets_of, ends_of, bit_count, port_width, cell_at, lib_at}
use Rattle.netlist_schema.specs.Hierarchy.{IsCell, Resolves, insts_at}
use Rattle.netlist_schema.specs.Ident.{IsIdentifier, is_identifier_byte}
use Rattle.netlist_schema.specs.Names.{AreDistinct, HasDistinctKeys, cell_names, lib_names, note_key}
use Rattle.netlist_schema.specs.Typed.{IsBytes, IsTypedCell, IsTypedInst, IsTypedName, IsTypedNet, IsTypedNote, IsTypedPort, IsTypedProperty, IsTypedValue}
use Rattle.netlist_schema.specs.Types.{CellBody, CellId, End, Inst, Lib, Name, Net, Note, Port, Property, TopHead, Value}
use Rattle.netlist_schema.specs.Valid.{HasBit, IsEndAt, IsEndOf, IsNoteBelow, IsValid, IsValidCell}
use Rattle.netlist_schema.specs.Width.{IsWidth}
use Rattle.netlist_schema.specs.declared.property.Value.TheVariants.{Boolean, Integer, Number, Text}
use Rattle.netlist_schema.proofs.Cells.{cell_of_inst, ranked_has_no_cycle}
use Rattle.test_hand_designs.specs.Sound.{are_bytes, bit_there, both, cell_tests, cells_fine, differ, end_code, end_there, fine_inst, fine_name, fine_net, fine_note, fine_port, fine_properties, fine_property, fine_top, fine_value, fine_width, height, id_at, if_some, is_id, is_sound, libs_fine, names_differ, no_notes, note_below, resolves, some_and, tests}

-- lists
all_holds : {A : Type 0} (p : A → Bool) (P : A → Type 0) → ((x : A) → p x ≡ true → P x) → (xs : List A) → list_all p xs ≡ true → AllByRecursion P xs
all_holds p P f [] h = tt
all_holds p P f (x ∷ xs) h = let t = and_parts (p x) (list_all p xs) h in (f x t.0, all_holds p P f xs t.1)

every : {A : Type 0} (p : A → Bool) (P : A → Type 0) → ((x : A) → p x ≡ true → P x) → (xs : List A) → list_all p xs ≡ true → All P xs
every p P f xs h = All-from_recursion P xs (all_holds p P f xs h)

some_holds : {A : Type 0} (p : A → Bool) (P : A → Type 0) → ((x : A) → p x ≡ true → P x) → (o : Option A) → if_some p o ≡ true → IfSome o P
some_holds p P f None h = tt
some_holds p P f (Some x) h = f x h

-- names that differ
abbrev Apart : {A : Type 0} → List A → Type 0
Apart [] = Unit {0}
Apart (x ∷ xs) = AllByRecursion (λ y. x ≢ y) xs × Apart xs

apart_distinct : {A : Type 0} (xs : List A) → Apart xs → AreDistinct xs
apart_distinct [] h i j d l m = absurd (omega arith)
apart_distinct (x ∷ xs) h i zero d l m = absurd (omega arith)
apart_distinct (x ∷ xs) h zero (suc j) d l m = All-from_recursion (λ y. x ≢ y) xs h.0 j d (omega arith)
apart_distinct (x ∷ xs) h (suc i) (suc j) d l m = apart_distinct xs h.1 i j d (omega arith) (omega arith)

-- a code for each element, and equal elements have equal codes
same_Decides : (m n : List ℕ) → Decides (pointwise nat_eq m n) (m ≡ n)
same_Decides m n = slice_eq-Decides (λ a b. (eqb-true a b, eq-eqb a b)) m n (pointwise nat_eq m n) refl

codes_differ : {A : Type 0} (f : A → List ℕ) (x y : A) → not (pointwise nat_eq (f x) (f y)) ≡ true → x ≢ y
codes_differ f x y h e =
    let s : pointwise nat_eq (f x) (f y) ≡ true = (same_Decides (f x) (f y)).1 (ap f e) in
    let c : false ≡ true = sym (ap not s) ∙ h in absurd (cc c)

differ_apart : {A : Type 0} (f : A → List ℕ) (xs : List A) → differ f xs ≡ true → Apart xs
differ_apart f [] h = tt
differ_apart f (x ∷ xs) h =
    let t = and_parts (list_all (λ y. not (pointwise nat_eq (f x) (f y))) xs) (differ f xs) h in
    (all_holds (λ y. not (pointwise nat_eq (f x) (f y))) (λ y. x ≢ y) (codes_differ f x) xs t.0, differ_apart f xs t.1)

distinct_names : (ns : List (List ℕ)) → names_differ ns ≡ true → AreDistinct ns
distinct_names ns h = apart_distinct ns (differ_apart (λ n. n) ns h)

distinct_ends : (es : List End) (f : End → List ℕ) → differ f es ≡ true → AreDistinct es
distinct_ends es f h = apart_distinct es (differ_apart f es h)

-- what holds by types

id_holds : (bs : List ℕ) → is_id bs ≡ true → IsIdentifier bs
id_holds bs h = let t = and_parts (nat_lt 0 (length bs)) (list_all is_identifier_byte bs) h in (ltb-true 0 (length bs) t.0, every is_identifier_byte (λ b. is_identifier_byte b ≡ true) (λ b k. k) bs t.1)

bytes_hold : (bs : List ℕ) → are_bytes bs ≡ true → IsBytes bs
bytes_hold bs h = every (λ b. nat_lt b 256) (λ b. b < 256) (λ b k. ltb-true b 256 k) bs h

name_holds : (n : Name) → fine_name n ≡ true → IsTypedName n
name_holds n h = let t = and_parts (is_id n.id) (if_some are_bytes n.shown) h in record { id = id_holds n.id t.0; shown = some_holds are_bytes IsBytes bytes_hold n.shown t.1 }

value_holds : (v : Value) → fine_value v ≡ true → IsTypedValue v
value_holds (Boolean b) h = tt
value_holds (Integer z) h = absurd (cc h)
value_holds (Number n) h = absurd (cc h)
value_holds (Text bs) h = bytes_hold bs h

property_holds : (p : Property) → fine_property p ≡ true → IsTypedProperty p
property_holds p h =
    let t = and_parts (fine_name p.key) (fine_value p.value && if_some are_bytes p.owner) h in
    let u = and_parts (fine_value p.value) (if_some are_bytes p.owner) t.1 in
    record { key = name_holds p.key t.0; value = value_holds p.value u.0; owner = some_holds are_bytes IsBytes bytes_hold p.owner u.1 }

properties_typed : (ps : List Property) → fine_properties ps ≡ true → All IsTypedProperty ps
properties_typed ps h = every fine_property IsTypedProperty property_holds ps (and_parts (list_all fine_property ps) (names_differ (map (λ (p : Property). p.key.id) ps)) h).0

properties_distinct : (ps : List Property) → fine_properties ps ≡ true → HasDistinctKeys ps
properties_distinct ps h = distinct_names (map (λ (p : Property). p.key.id) ps) (and_parts (list_all fine_property ps) (names_differ (map (λ (p : Property). p.key.id) ps)) h).1

-- ports, instances, nets

width_holds : (n : ℕ) → fine_width n ≡ true → IsWidth n
width_holds n h = let t = and_parts (nat_le 1 n) (nat_le n 65536) h in (leb-true 1 n t.0, leb-true n 65536 t.1)

port_parts : (p : Port) → fine_port p ≡ true → IsTypedPort p × (fine_properties p.properties ≡ true)
port_parts p h =
    let t = and_parts (fine_name p.name) (if_some fine_width p.array && (if_some are_bytes p.designator && fine_properties p.properties)) h in
    let u = and_parts (if_some fine_width p.array) (if_some are_bytes p.designator && fine_properties p.properties) t.1 in
    let v = and_parts (if_some are_bytes p.designator) (fine_properties p.properties) u.1 in
    (record { name = name_holds p.name t.0; array = some_holds fine_width IsWidth width_holds p.array u.0; designator = some_holds are_bytes IsBytes bytes_hold p.designator v.0; properties = properties_typed p.properties v.1 }, v.1)

-- what the test says of an instance

record FineInst (rank : CellId → ℕ) (d : Design) (id : CellId) (i : Inst) : Type 0 where
  pub typed : IsTypedInst i
  pub properties : fine_properties i.properties ≡ true
  pub there : IsCell d i.of
  pub early : i.of.lib.0 ≤ id.lib.0
  pub lower : rank i.of < rank id

inst_holds : (rank : CellId → ℕ) (d : Design) (id : CellId) (i : Inst) → fine_inst rank d id i ≡ true → FineInst rank d id i
inst_holds rank d id i h =
    let t = and_parts (fine_name i.name) (if_some are_bytes i.designator && (fine_properties i.properties && (is_some (cell_at d i.of) && (nat_le i.of.lib.0 id.lib.0 && nat_lt (rank i.of) (rank id))))) h in
    let u = and_parts (if_some are_bytes i.designator) (fine_properties i.properties && (is_some (cell_at d i.of) && (nat_le i.of.lib.0 id.lib.0 && nat_lt (rank i.of) (rank id)))) t.1 in
    let v = and_parts (fine_properties i.properties) (is_some (cell_at d i.of) && (nat_le i.of.lib.0 id.lib.0 && nat_lt (rank i.of) (rank id))) u.1 in
    let w = and_parts (is_some (cell_at d i.of)) (nat_le i.of.lib.0 id.lib.0 && nat_lt (rank i.of) (rank id)) v.1 in
    let x = and_parts (nat_le i.of.lib.0 id.lib.0) (nat_lt (rank i.of) (rank id)) w.1 in
    record {
      typed = record { name = name_holds i.name t.0; designator = some_holds are_bytes IsBytes bytes_hold i.designator u.0; properties = properties_typed i.properties v.0 };
      properties = v.0;
      there = w.0;
      early = leb-true i.of.lib.0 id.lib.0 x.0;
      lower = ltb-true (rank i.of) (rank id) x.1;
    }

some_and_holds : {A : Type 0} (p : A → Bool) (P : A → Type 0) → ((x : A) → p x ≡ true → P x) → (o : Option A) → some_and p o ≡ true → IsSomeAnd o P
some_and_holds p P f None h = absurd (cc h)
some_and_holds p P f (Some x) h = f x h

bit_holds : (ports : List Port) (port bit : ℕ) → bit_there ports port bit ≡ true → HasBit ports port bit
bit_holds ports port bit h = some_and_holds (λ p. nat_lt bit (port_width p)) (λ p. bit < port_width p) (λ p k. ltb-true bit (port_width p) k) (slice_get ports port) h

end_holds : (d : Design) (body : CellBody) (o : Option ℕ) (port bit : ℕ) → end_there d body o port bit ≡ true → IsEndAt d body o port bit
end_holds d body None port bit h = bit_holds body.ports port bit h
end_holds d body (Some place) port bit h =
    some_and_holds (λ (i : Inst). some_and (λ (of : CellBody). bit_there of.ports port bit) (cell_at d i.of)) (λ (i : Inst). IsSomeAnd (cell_at d i.of) (λ (of : CellBody). HasBit of.ports port bit))
    (λ i k. some_and_holds (λ (of : CellBody). bit_there of.ports port bit) (λ (of : CellBody). HasBit of.ports port bit) (λ of m. bit_holds of.ports port bit m) (cell_at d i.of) k)
    (slice_get (insts_of body) place) h

net_parts : (n : Net) → fine_net n ≡ true → IsTypedNet n × (fine_properties n.properties ≡ true)
net_parts n h = let t = and_parts (fine_name n.name) (fine_properties n.properties) h in (record { name = name_holds n.name t.0; properties = properties_typed n.properties t.1 }, t.1)

-- a cell

pass : (bs : List Bool) (k : ℕ) (b : Bool) → both bs ≡ true → slice_get bs k ≡ Some b → b ≡ true
pass [] k b h e = absurd (cc e)
pass (x ∷ bs) zero b h e = let w : x ≡ b = cc e in sym w ∙ (and_parts x (both bs) h).0
pass (x ∷ bs) (suc k) b h e = pass bs k b (and_parts x (both bs) h).1 e

cell_typed : (rank : CellId → ℕ) (d : Design) (id : CellId) (c : CellBody) → both (cell_tests rank d id c) ≡ true → IsTypedCell c
cell_typed rank d id c h =
    let T = cell_tests rank d id c in
    record {
      name = name_holds c.name (pass T 0 (fine_name c.name) h refl);
      properties = properties_typed c.properties (pass T 2 (fine_properties c.properties) h refl);
      view = name_holds c.view (pass T 1 (fine_name c.view) h refl);
      view_properties = properties_typed c.view_properties (pass T 3 (fine_properties c.view_properties) h refl);
      interface_properties = properties_typed c.interface_properties (pass T 4 (fine_properties c.interface_properties) h refl);
      ports = every fine_port IsTypedPort (λ p k. (port_parts p k).0) c.ports (pass T 5 (list_all fine_port c.ports) h refl);
      insts = every (fine_inst rank d id) IsTypedInst (λ i k. (inst_holds rank d id i k).typed) (insts_of c) (pass T 6 (list_all (fine_inst rank d id) (insts_of c)) h refl);
      nets = every fine_net IsTypedNet (λ n k. (net_parts n k).0) (nets_of c) (pass T 7 (list_all fine_net (nets_of c)) h refl);
    }

cell_holds : (rank : CellId → ℕ) (d : Design) (id : CellId) (c : CellBody) → both (cell_tests rank d id c) ≡ true → IsValidCell d id c
cell_holds rank d id c h =
    let T = cell_tests rank d id c in
    let insts = pass T 6 (list_all (fine_inst rank d id) (insts_of c)) h refl in
    let port_names = map (λ (p : Port). p.name.id) c.ports in
    let inst_names = map (λ (i : Inst). i.name.id) (insts_of c) in
    let net_names = map (λ (n : Net). n.name.id) (nets_of c) in
    record {
      limits = record {
        ports = leb-true (length c.ports) 65536 (pass T 13 (nat_le (length c.ports) 65536) h refl);
        bits = leb-true (bit_count c) 1048576 (pass T 14 (nat_le (bit_count c) 1048576) h refl);
        insts = leb-true (length (insts_of c)) 1048576 (pass T 15 (nat_le (length (insts_of c)) 1048576) h refl);
        nets = leb-true (length (nets_of c)) 1048576 (pass T 16 (nat_le (length (nets_of c)) 1048576) h refl);
        ends = leb-true (length (ends_of c)) 4194304 (pass T 17 (nat_le (length (ends_of c)) 4194304) h refl);
      };
      names = record {
        ports = distinct_names port_names (pass T 10 (names_differ port_names) h refl);
        insts = distinct_names inst_names (pass T 11 (names_differ inst_names) h refl);
        nets = distinct_names net_names (pass T 12 (names_differ net_names) h refl);
        properties = properties_distinct c.properties (pass T 2 (fine_properties c.properties) h refl);
        view_properties = properties_distinct c.view_properties (pass T 3 (fine_properties c.view_properties) h refl);
        interface_properties = properties_distinct c.interface_properties (pass T 4 (fine_properties c.interface_properties) h refl);
        port_properties = every fine_port (λ (p : Port). HasDistinctKeys p.properties) (λ p k. properties_distinct p.properties (port_parts p k).1) c.ports (pass T 5 (list_all fine_port c.ports) h refl);
        inst_properties = every (fine_inst rank d id) (λ (i : Inst). HasDistinctKeys i.properties) (λ i k. properties_distinct i.properties (inst_holds rank d id i k).properties) (insts_of c) insts;
        net_properties = every fine_net (λ (n : Net). HasDistinctKeys n.properties) (λ n k. properties_distinct n.properties (net_parts n k).1) (nets_of c) (pass T 7 (list_all fine_net (nets_of c)) h refl);
      };
      placed = every (fine_inst rank d id) (λ (i : Inst). IsCell d i.of) (λ i k. (inst_holds rank d id i k).there) (insts_of c) insts;
      not_later = every (fine_inst rank d id) (λ (i : Inst). i.of.lib.0 ≤ id.lib.0) (λ i k. (inst_holds rank d id i k).early) (insts_of c) insts;
      ends = every (λ (e : End). end_there d c e.inst e.port e.bit) (IsEndOf d c) (λ e k. end_holds d c e.inst e.port e.bit k) (ends_of c) (pass T 8 (list_all (λ (e : End). end_there d c e.inst e.port e.bit) (ends_of c)) h refl);
      joined_once = distinct_ends (ends_of c) end_code (pass T 9 (differ end_code (ends_of c)) h refl);
    }

-- all cells of all libraries, by their places

cell_passes : (rank : CellId → ℕ) (d : Design) (own slot k : ℕ) (cs : List CellBody) (c : CellBody) → cells_fine rank d own slot cs ≡ true → slice_get cs k ≡ Some c → both (cell_tests rank d (id_at own (slot + k)) c) ≡ true
cell_passes rank d own slot k [] c h e = absurd (cc e)
cell_passes rank d own slot zero (x ∷ cs) c h e =
    let w : x ≡ c = cc e in
    let z : slot ≡ slot + 0 = omega arith in
    subst (λ n. both (cell_tests rank d (id_at own n) c) ≡ true) z (subst (λ (y : CellBody). both (cell_tests rank d (id_at own slot) y) ≡ true) w (and_parts (both (cell_tests rank d (id_at own slot) x)) (cells_fine rank d own (suc slot) cs) h).0)
cell_passes rank d own slot (suc k) (x ∷ cs) c h e =
    let z : suc slot + k ≡ slot + suc k = omega arith in
    subst (λ n. both (cell_tests rank d (id_at own n) c) ≡ true) z (cell_passes rank d own (suc slot) k cs c (and_parts (both (cell_tests rank d (id_at own slot) x)) (cells_fine rank d own (suc slot) cs) h).1 e)

lib_passes : (rank : CellId → ℕ) (d : Design) (own i : ℕ) (ls : List Lib) (l : Lib) → libs_fine rank d own ls ≡ true → slice_get ls i ≡ Some l → cells_fine rank d (own + i) 0 l.cells ≡ true
lib_passes rank d own i [] l h e = absurd (cc e)
lib_passes rank d own zero (x ∷ ls) l h e =
    let w : x ≡ l = cc e in
    let z : own ≡ own + 0 = omega arith in
    subst (λ n. cells_fine rank d n 0 l.cells ≡ true) z (subst (λ (y : Lib). cells_fine rank d own 0 y.cells ≡ true) w (and_parts (cells_fine rank d own 0 x.cells) (libs_fine rank d (suc own) ls) h).0)
lib_passes rank d own (suc i) (x ∷ ls) l h e =
    let z : suc own + i ≡ own + suc i = omega arith in
    subst (λ n. cells_fine rank d n 0 l.cells ≡ true) z (lib_passes rank d (suc own) i ls l (and_parts (cells_fine rank d own 0 x.cells) (libs_fine rank d (suc own) ls) h).1 e)

in_lib : (o : Option Lib) (slot : ℕ) (c : CellBody) → slice_get (option_map_or (λ (l : Lib). l.cells) o []) slot ≡ Some c → (l : Lib) × (o ≡ Some l) × (slice_get l.cells slot ≡ Some c)
in_lib None slot c e = absurd (cc e)
in_lib (Some l) slot c e = (l, refl, e)

passes : (rank : CellId → ℕ) (d : Design) (id : CellId) (c : CellBody) → libs_fine rank d 0 d.libs ≡ true → cell_at d id ≡ Some c → both (cell_tests rank d id c) ≡ true
passes rank d id c h e =
    let l = in_lib (lib_at d id.lib) id.slot c e in
    let y : 0 + id.lib.0 ≡ id.lib.0 = omega arith in
    let z : 0 + id.slot ≡ id.slot = omega arith in
    let cells = subst (λ n. cells_fine rank d n 0 l.0.cells ≡ true) y (lib_passes rank d 0 id.lib.0 d.libs l.0 h l.1) in
    subst (λ n. both (cell_tests rank d (id_at id.lib.0 n) c) ≡ true) z (cell_passes rank d id.lib.0 0 id.slot l.0.cells c cells l.2)

-- the cells of libraries, for what is said library by library
typed_libs : (rank : CellId → ℕ) (d : Design) (own : ℕ) (ls : List Lib) → libs_fine rank d own ls ≡ true → AllByRecursion (λ (l : Lib). All IsTypedCell l.cells) ls
typed_libs rank d own [] h = tt
typed_libs rank d own (l ∷ ls) h =
    let t = and_parts (cells_fine rank d own 0 l.cells) (libs_fine rank d (suc own) ls) h in
    (All-from_recursion IsTypedCell l.cells (typed_cells 0 l.cells t.0), typed_libs rank d (suc own) ls t.1)
  where
    typed_cells : (slot : ℕ) (cs : List CellBody) → cells_fine rank d own slot cs ≡ true → AllByRecursion IsTypedCell cs
    typed_cells slot [] h = tt
    typed_cells slot (c ∷ cs) h =
        let t = and_parts (both (cell_tests rank d (id_at own slot) c)) (cells_fine rank d own (suc slot) cs) h in
        (cell_typed rank d (id_at own slot) c t.0, typed_cells (suc slot) cs t.1)

-- notes

any_contains : {A : Type 0} (p : A → Bool) (xs : List A) → list_any p xs ≡ true → (x : A) × Contains xs x × (p x ≡ true)
any_contains p [] h = absurd (cc h)
any_contains {A} p (x ∷ xs) h = go (p x) refl h (any_contains p xs)
  where
    go : (b : Bool) → p x ≡ b → (b || list_any p xs) ≡ true → (list_any p xs ≡ true → (y : A) × Contains xs y × (p y ≡ true)) → (y : A) × Contains (x ∷ xs) y × (p y ≡ true)
    go true e h more = (x, (0, omega arith, refl), e)
    go false e h more = let r = more h in (r.0, (suc r.1.0, omega (arith, r.1.1), r.1.2), r.2)

path_holds : (d : Design) (id : CellId) (ns : List (List ℕ)) → resolves d id ns ≡ true → Resolves d id ns
path_holds d id [] h = tt
path_holds d id (n ∷ ns) h =
    let i = any_contains (λ (i : Inst). pointwise nat_eq i.name.id n && resolves d i.of ns) (insts_at d id) h in
    let t = and_parts (pointwise nat_eq i.0.name.id n) (resolves d i.0.of ns) i.2 in
    (i.0, i.1, (same_Decides i.0.name.id n).0 t.0, path_holds d i.0.of ns t.1)

note_holds : (n : Note) → fine_note n ≡ true → IsTypedNote n
note_holds n h = let t = and_parts (list_all is_id n.path) (fine_property n.property) h in record { path = every is_id IsIdentifier id_holds n.path t.0; property = property_holds n.property t.1 }

below_holds : (d : Design) (top : CellId) (n : Note) → note_below d top n ≡ true → IsNoteBelow d top n
below_holds d top n h = let t = and_parts (nat_lt 0 (length n.path)) (resolves d top n.path) h in record { has_step = ltb-true 0 (length n.path) t.0; resolves = path_holds d top n.path t.1 }

need_top : (o : Option TopHead) (ns : List Note) → no_notes o ns ≡ true → IfNone o (ns ≡ [])
need_top None [] h = refl
need_top None (n ∷ ns) h = absurd (cc h)
need_top (Some t) ns h = tt

-- one note at most
one_note : (ns : List Note) → nat_le (length ns) 1 ≡ true → AreDistinct (map note_key ns)
one_note ns h i j d l m = let n = leb-true (length ns) 1 h in let k = length-map ns note_key in absurd (omega (arith, n, k, l, m))

-- the test

tested_is_valid : (rank : CellId → ℕ) (d : Design) → both (tests rank d) ≡ true → IsValid d
tested_is_valid rank d h =
    let T = tests rank d in
    let libs = pass T 2 (libs_fine rank d 0 d.libs) h refl in
    let top = pass T 3 (if_some (fine_top d) d.top) h refl in
    let few = leb-true (length d.notes) 1 (pass T 6 (nat_le (length d.notes) 1) h refl) in
    record {
      typed = record {
        title = name_holds d.title (pass T 0 (fine_name d.title) h refl);
        libs = every (λ (l : Lib). fine_name l.head.name) (λ (l : Lib). IsTypedName l.head.name) (λ l k. name_holds l.head.name k) d.libs (pass T 1 (list_all (λ (l : Lib). fine_name l.head.name) d.libs) h refl);
        cells = All-from_recursion (λ (l : Lib). All IsTypedCell l.cells) d.libs (typed_libs rank d 0 d.libs libs);
        top = some_holds (fine_top d) (λ t. IsTypedName t.name × All IsTypedProperty t.properties) (λ t k. (top_parts t k).0) d.top top;
        notes = every fine_note IsTypedNote note_holds d.notes (pass T 4 (list_all fine_note d.notes) h refl);
      };
      limits = record {
        libs = leb-true (length d.libs) 1024 (pass T 7 (nat_le (length d.libs) 1024) h refl);
        cells = every (λ (l : Lib). nat_le (length l.cells) 65536) (λ (l : Lib). length l.cells ≤ 65536) (λ l k. leb-true (length l.cells) 65536 k) d.libs (pass T 8 (list_all (λ (l : Lib). nat_le (length l.cells) 65536) d.libs) h refl);
        notes = omega (arith, few);
      };
      names = record {
        libs = distinct_names (lib_names d.libs) (pass T 9 (names_differ (lib_names d.libs)) h refl);
        cells = every (λ (l : Lib). names_differ (cell_names l.cells)) (λ (l : Lib). AreDistinct (cell_names l.cells)) (λ l k. distinct_names (cell_names l.cells) k) d.libs
            (pass T 10 (list_all (λ (l : Lib). names_differ (cell_names l.cells)) d.libs) h refl);
      };
      cells = λ id c e. cell_holds rank d id c (passes rank d id c libs e);
      no_cycle = ranked_has_no_cycle d rank (λ id i has.
          let c = cell_of_inst d id i has in
          let tests = passes rank d id c.0 libs c.1 in
          let all = every (fine_inst rank d id) (λ (x : Inst). rank x.of < rank id) (λ x k. (inst_holds rank d id x k).lower) (insts_of c.0) (pass (cell_tests rank d id c.0) 6 (list_all (fine_inst rank d id) (insts_of c.0)) tests refl) in
          subst (λ (x : Inst). rank x.of < rank id) c.2.2 (all c.2.0 i c.2.1));
      top = some_holds (fine_top d) (λ t. IsCell d t.cell × HasDistinctKeys t.properties) (λ t k. (top_parts t k).1) d.top top;
      notes = some_holds (fine_top d) (λ t. All (IsNoteBelow d t.cell) d.notes) (λ t k. (top_parts t k).2) d.top top;
      notes_need_top = need_top d.top d.notes (pass T 5 (no_notes d.top d.notes) h refl);
      notes_differ = one_note d.notes (pass T 6 (nat_le (length d.notes) 1) h refl);
    }
  where
    top_parts : (t : TopHead) → fine_top d t ≡ true → (IsTypedName t.name × All IsTypedProperty t.properties) × (IsCell d t.cell × HasDistinctKeys t.properties) × All (IsNoteBelow d t.cell) d.notes
    top_parts t h =
        let a = and_parts (fine_name t.name) (fine_properties t.properties && (is_some (cell_at d t.cell) && list_all (note_below d t.cell) d.notes)) h in
        let b = and_parts (fine_properties t.properties) (is_some (cell_at d t.cell) && list_all (note_below d t.cell) d.notes) a.1 in
        let c = and_parts (is_some (cell_at d t.cell)) (list_all (note_below d t.cell) d.notes) b.1 in
        ((name_holds t.name a.0, properties_typed t.properties b.0), (c.0, properties_distinct t.properties b.0), every (note_below d t.cell) (IsNoteBelow d t.cell) (below_holds d t.cell) d.notes c.1)

-- a design that passes the test, and one with the parts of such a design
pub sound_is_valid : (d : Design) → is_sound d ≡ true → IsValid d
sound_is_valid d h = tested_is_valid (height (suc (sum_by (λ (l : Lib). length l.cells) d.libs)) d) d h

pub sound_parts_are_valid : (d : Design) (title : Name) (libs : List Lib) (top : Option TopHead) (notes : List Note)
    → is_sound d ≡ true → title ≡ d.title → libs ≡ d.libs → top ≡ d.top → notes ≡ d.notes → IsValid (record { title = title; libs = libs; top = top; notes = notes })
sound_parts_are_valid d title libs top notes sound t l p n =
    let same : d ≡ record { title = title; libs = libs; top = top; notes = notes } = rw (t, l, p, n) refl in
    subst IsValid same (sound_is_valid d sound)
