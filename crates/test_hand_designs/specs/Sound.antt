-- A test that valid designs alone pass, though not each of them: their values are texts and booleans, and there is one note at most.
use Rattle.std.specs.Prelude.{ℕ, zero, suc, ◌&&◌, List, [], ◌∷◌, length, map, max, Bool, true, false, not, Option, None, Some, is_some, nat_eq, nat_le, nat_lt, slice_get}
use Rattle.std.specs.List.{list_all, list_any, sum_by}
use Rattle.std.specs.Cmp.Lexicographic.{pointwise}
use Rattle.netlist_schema.specs.Design.{Design, insts_of, nets_of, ends_of, bit_count, port_width, cell_at}
use Rattle.netlist_schema.specs.Hierarchy.{insts_at}
use Rattle.netlist_schema.specs.Ident.{is_identifier_byte}
use Rattle.netlist_schema.specs.Names.{cell_names, lib_names}
use Rattle.netlist_schema.specs.Types.{CellBody, CellId, End, Inst, Lib, Name, Net, Note, Port, Property, TopHead, Value}
use Rattle.netlist_schema.specs.declared.property.Value.TheVariants.{Boolean, Integer, Number, Text}
use Rattle.netlist_schema.specs.declared.limits.TheConstants.{MOST_BITS, MOST_CELLS, MOST_ENDS, MOST_INSTS, MOST_LIBS, MOST_NETS, MOST_PORTS, MOST_WIDTH}

-- what is there passes
abbrev pub if_some : {A : Type 0} → (A → Bool) → Option A → Bool
if_some p None = true
if_some p (Some x) = p x

-- something is there, and passes
abbrev pub some_and : {A : Type 0} → (A → Bool) → Option A → Bool
some_and p None = false
some_and p (Some x) = p x

-- all tests are passed
abbrev pub both : List Bool → Bool
both [] = true
both (b ∷ bs) = b && both bs

-- no two have the same code
abbrev pub differ : {A : Type 0} → (A → List ℕ) → List A → Bool
differ f [] = true
differ f (x ∷ xs) = list_all (λ y. not (pointwise nat_eq (f x) (f y))) xs && differ f xs

abbrev pub names_differ : List (List ℕ) → Bool
names_differ ns = differ (λ n. n) ns

-- names and properties
abbrev pub is_id : List ℕ → Bool
is_id bs = nat_lt 0 (length bs) && list_all is_identifier_byte bs

abbrev pub are_bytes : List ℕ → Bool
are_bytes bs = list_all (λ b. nat_lt b 256) bs

abbrev pub fine_name : Name → Bool
fine_name n = is_id n.id && if_some are_bytes n.shown

abbrev pub fine_value : Value → Bool
fine_value (Boolean b) = true
fine_value (Integer z) = false
fine_value (Number n) = false
fine_value (Text bs) = are_bytes bs

abbrev pub fine_property : Property → Bool
fine_property p = fine_name p.key && (fine_value p.value && if_some are_bytes p.owner)

abbrev pub fine_properties : List Property → Bool
fine_properties ps = list_all fine_property ps && names_differ (map (λ (p : Property). p.key.id) ps)

-- ports, instances, nets
abbrev pub fine_width : ℕ → Bool
fine_width n = nat_le 1 n && nat_le n MOST_WIDTH

abbrev pub fine_port : Port → Bool
fine_port p = fine_name p.name && (if_some fine_width p.array && (if_some are_bytes p.designator && fine_properties p.properties))

-- an instance of a cell that is there, in a library that is not later, of lower rank
abbrev pub fine_inst : (CellId → ℕ) → Design → CellId → Inst → Bool
fine_inst rank d id i = fine_name i.name && (if_some are_bytes i.designator && (fine_properties i.properties && (is_some (cell_at d i.of) && (nat_le i.of.lib.0 id.lib.0 && nat_lt (rank i.of) (rank id)))))

abbrev pub bit_there : List Port → ℕ → ℕ → Bool
bit_there ports port bit = some_and (λ p. nat_lt bit (port_width p)) (slice_get ports port)

abbrev pub end_there : Design → CellBody → Option ℕ → ℕ → ℕ → Bool
end_there d body None port bit = bit_there body.ports port bit
end_there d body (Some place) port bit = some_and (λ (i : Inst). some_and (λ (of : CellBody). bit_there of.ports port bit) (cell_at d i.of)) (slice_get (insts_of body) place)

abbrev pub fine_net : Net → Bool
fine_net n = fine_name n.name && fine_properties n.properties

abbrev pub inst_code : Option ℕ → ℕ
inst_code None = 0
inst_code (Some i) = suc i

abbrev pub end_code : End → List ℕ
end_code e = inst_code e.inst ∷ e.port ∷ e.bit ∷ []

-- a cell
abbrev pub cell_tests : (CellId → ℕ) → Design → CellId → CellBody → List Bool
cell_tests rank d id c = fine_name c.name ∷ fine_name c.view ∷ fine_properties c.properties ∷ fine_properties c.view_properties ∷ fine_properties c.interface_properties
    ∷ list_all fine_port c.ports ∷ list_all (fine_inst rank d id) (insts_of c) ∷ list_all fine_net (nets_of c)
    ∷ list_all (λ (e : End). end_there d c e.inst e.port e.bit) (ends_of c) ∷ differ end_code (ends_of c)
    ∷ names_differ (map (λ (p : Port). p.name.id) c.ports) ∷ names_differ (map (λ (i : Inst). i.name.id) (insts_of c)) ∷ names_differ (map (λ (n : Net). n.name.id) (nets_of c))
    ∷ nat_le (length c.ports) MOST_PORTS ∷ nat_le (bit_count c) MOST_BITS ∷ nat_le (length (insts_of c)) MOST_INSTS ∷ nat_le (length (nets_of c)) MOST_NETS ∷ nat_le (length (ends_of c)) MOST_ENDS ∷ []

-- all cells of all libraries, by their places
abbrev pub id_at : ℕ → ℕ → CellId
id_at own slot = record { lib = record { 0 = own }; slot = slot }

abbrev pub cells_fine : (CellId → ℕ) → Design → ℕ → ℕ → List CellBody → Bool
cells_fine rank d own slot [] = true
cells_fine rank d own slot (c ∷ cs) = both (cell_tests rank d (id_at own slot) c) && cells_fine rank d own (suc slot) cs

abbrev pub libs_fine : (CellId → ℕ) → Design → ℕ → List Lib → Bool
libs_fine rank d own [] = true
libs_fine rank d own (l ∷ ls) = cells_fine rank d own 0 l.cells && libs_fine rank d (suc own) ls

-- notes
abbrev pub resolves : Design → CellId → List (List ℕ) → Bool
resolves d id [] = true
resolves d id (n ∷ ns) = list_any (λ (i : Inst). pointwise nat_eq i.name.id n && resolves d i.of ns) (insts_at d id)

abbrev pub fine_note : Note → Bool
fine_note n = list_all is_id n.path && fine_property n.property

abbrev pub note_below : Design → CellId → Note → Bool
note_below d top n = nat_lt 0 (length n.path) && resolves d top n.path

abbrev pub fine_top : Design → TopHead → Bool
fine_top d t = fine_name t.name && (fine_properties t.properties && (is_some (cell_at d t.cell) && list_all (note_below d t.cell) d.notes))

abbrev pub no_notes : Option TopHead → List Note → Bool
no_notes None [] = true
no_notes None (n ∷ ns) = false
no_notes (Some t) ns = true

-- a whole design, by a rank of its cells
abbrev pub tests : (CellId → ℕ) → Design → List Bool
tests rank d = fine_name d.title ∷ list_all (λ (l : Lib). fine_name l.head.name) d.libs ∷ libs_fine rank d 0 d.libs ∷ if_some (fine_top d) d.top ∷ list_all fine_note d.notes ∷ no_notes d.top d.notes ∷ nat_le (length d.notes) 1
    ∷ nat_le (length d.libs) MOST_LIBS ∷ list_all (λ (l : Lib). nat_le (length l.cells) MOST_CELLS) d.libs ∷ names_differ (lib_names d.libs) ∷ list_all (λ (l : Lib). names_differ (cell_names l.cells)) d.libs ∷ []

-- the greatest of some numbers
abbrev pub greatest : List ℕ → ℕ
greatest [] = 0
greatest (n ∷ ns) = max n (greatest ns)

-- how many cells, this one counted, stand below each other at most, as far as so many levels tell
abbrev pub height : ℕ → Design → CellId → ℕ
height zero d id = 0
height (suc levels) d id = suc (greatest (map (λ (i : Inst). height levels d i.of) (insts_at d id)))

abbrev pub is_sound : Design → Bool
is_sound d = both (tests (height (suc (sum_by (λ (l : Lib). length l.cells) d.libs)) d) d)
