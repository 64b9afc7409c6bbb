-- What is kept is kept whole: each of its cells is kept, at its own place.
use Rattle.std.proofs.Common.{◌≡◌, ◌+◌, ◌<◌, ◌≤◌, ◌⊎◌, inl, inr, ℕ, zero, suc, arith, Bool, true, false, cond, List, [], ◌∷◌, length, map, Option, Some, None, refl, sym, ap, subst, ◌∙◌, slice_get}
use Rattle.std.specs.Prelude.{IfSome, filter, option_map}
use Rattle.std.specs.List.{All, range_with_len}
use Rattle.std.specs.Option.{option_map_or}
use Rattle.std.proofs.lemmas.List.{map-id}
use Rattle.std.proofs.lemmas.List.FromFn.{length-range_with_len}
use Rattle.std.proofs.lemmas.Option.{slice_get_past}
use Rattle.netlist_schema.specs.Design.{Design, cell_at, insts_in, insts_of}
use Rattle.netlist_schema.specs.Hierarchy.{IsBelow, IsCell, NoCellIsBelowItself, deeper, placed}
use Rattle.netlist_schema.specs.Types.{CellBody, CellId, Contents, Inst, Lib, TopHead}
use Rattle.netlist_schema.specs.Names.{HasDistinctKeys}
use Rattle.netlist_schema.specs.Valid.{IsValid}
use Rattle.netlist_schema.proofs.Cells.{All-slice_get}
use Rattle.netlist_schema.proofs.Lists.{get_there, some_of}
use Rattle.netlist_order_spec.proofs.Places.{lib_of_cell}
use Rattle.netlist_order_spec.proofs.WholeOrder.{cell_found}
use Rattle.edif_spec.specs.Arranged.{new_cell, new_cells, new_contents, new_id, new_inst, new_top}
use Rattle.edif_spec.proofs.Arrange.{new_there}
use Rattle.used_spec.specs.Kept.{is_kept, kept, kept_below, kept_libs, kept_places, kept_slots, lib_with}
use Rattle.used_spec.specs.Uses.{id_at}
use Rattle.used_spec.proofs.KeptCells.{below_is_kept, cell_from, count_is, inst_is_kept, kept_is_below, lib_kept, slot_is, slots_new, slots_there, top_is_kept}
use Rattle.used_spec.proofs.KeptValid.{inst_moved, kept_below_valid}
use Rattle.used_spec.proofs.Numbered.{numbered, past_end, same_list}
use Rattle.used_spec.proofs.Renumbered.{length_new, place_at}

-- ---- each cell of the kept design is the top or below it

below_moved : (d : Design) (top : TopHead) (inner outer : CellId) → NoCellIsBelowItself d → is_kept d top.cell outer ≡ true → IsBelow d inner outer
    → IsBelow (kept_below d top) (new_id (kept_places d top.cell) inner) (new_id (kept_places d top.cell) outer)
below_moved d top inner outer acyclic kept (placed inst has) = placed (new_inst (kept_places d top.cell) inst) (inst_moved d top outer inst kept has)
below_moved d top inner outer acyclic kept (deeper inst has below) =
    deeper (new_inst (kept_places d top.cell) inst) (inst_moved d top outer inst kept has)
    (below_moved d top inner inst.of acyclic (inst_is_kept d top.cell outer inst acyclic kept has) below)

all_kept : (d : Design) (top : TopHead) → IsValid d → IsValid (kept_below d top) → (id : CellId) → IsCell (kept_below d top) id → is_kept (kept_below d top) (new_id (kept_places d top.cell) top.cell) id ≡ true
all_kept d top v w id is =
    let n = some_of (cell_at (kept_below d top) id) is in
    let from = cell_from d top id n.0 n.1 in
    let new = new_id (kept_places d top.cell) in
    subst (λ (k : CellId). is_kept (kept_below d top) (new top.cell) k ≡ true) (sym from.at)
    (below_is_kept (kept_below d top) (new top.cell) (new from.old_id) w.no_cycle (moved from.old_id (kept_is_below d top.cell from.old_id v.no_cycle from.kept)))
  where
    moved : (old : CellId) → (old ≡ top.cell) ⊎ IsBelow d old top.cell → (new_id (kept_places d top.cell) old ≡ new_id (kept_places d top.cell) top.cell) ⊎ IsBelow (kept_below d top) (new_id (kept_places d top.cell) old) (new_id (kept_places d top.cell) top.cell)
    moved old (inl same) = inl (ap (new_id (kept_places d top.cell)) same)
    moved old (inr below) = inr (below_moved d top old top.cell v.no_cycle (top_is_kept d top.cell v.no_cycle) below)

-- ---- a design all of whose cells are kept

-- each cell is
abbrev pub AreAllKept : Design → CellId → Type 0
AreAllKept e top = (id : CellId) → IsCell e id → is_kept e top id ≡ true

filter_all : (test : ℕ → Bool) (a n : ℕ) → ((i : ℕ) → a ≤ i → i < a + n → test i ≡ true) → filter test (range_with_len a n) ≡ range_with_len a n
filter_all test a zero each = refl
filter_all test a (suc n) each =
    ap (λ b. cond b (a ∷ filter test (range_with_len (a + 1) n)) (filter test (range_with_len (a + 1) n))) (each a (omega arith) (omega arith))
    ∙ ap (λ v. a ∷ v) (filter_all test (a + 1) n (λ i low high. each i (omega (arith, low)) (omega (arith, high))))

slots_all : (e : Design) (top : CellId) (lib : ℕ) (l : Lib) → AreAllKept e top → slice_get e.libs lib ≡ Some l → kept_slots e top lib ≡ range_with_len 0 (length l.cells)
slots_all e top lib l all is =
    ap (λ n. filter (λ slot. is_kept e top (id_at lib slot)) (range_with_len 0 n)) (count_is e lib l is)
    ∙ filter_all (λ slot. is_kept e top (id_at lib slot)) 0 (length l.cells) (λ i low high.
    let c = get_there l.cells i (omega (arith, high)) in
    all (id_at lib i) (ap is_there (cell_found e lib i l c.0 is c.1)))
  where
    is_there : Option CellBody → Bool
    is_there None = false
    is_there (Some c) = true

in_range : (l : Lib) (slot : ℕ) (c : CellBody) → slice_get l.cells slot ≡ Some c → slice_get (range_with_len 0 (length l.cells)) slot ≡ Some slot
in_range l slot c is =
    ap (λ (xs : List ℕ). slice_get xs slot) (sym (map-id (range_with_len 0 (length l.cells))))
    ∙ numbered (λ (i : ℕ). i) l.cells (length l.cells) slot refl
    ∙ ap (option_map (λ _. slot)) is

slot_listed : (e : Design) (top : CellId) (lib slot : ℕ) (l : Lib) (c : CellBody) → AreAllKept e top → slice_get e.libs lib ≡ Some l → slice_get l.cells slot ≡ Some c → slice_get (kept_slots e top lib) slot ≡ Some slot
slot_listed e top lib slot l c all is at = ap (λ (xs : List ℕ). slice_get xs slot) (slots_all e top lib l all is) ∙ in_range l slot c at

-- a cell keeps its id
id_stays : (e : Design) (top id : CellId) → AreAllKept e top → IsCell e id → new_id (kept_places e top) id ≡ id
id_stays e top id all is =
    let c = some_of (cell_at e id) is in
    let l = lib_of_cell e id c.0 c.1 in
    let slot : (new_id (kept_places e top) id).slot ≡ id.slot =
    slot_is e top id l.0 l.1 ∙ place_at (kept_slots e top id.lib.0) id.slot id.slot (slots_new e top id.lib.0) (slot_listed e top id.lib.0 id.slot l.0 c.0 all l.1 l.2) in
    λ i. record { lib = id.lib; slot = slot i }

insts_stay : (e : Design) (top : CellId) (is : List Inst) → AreAllKept e top → ((k : ℕ) (i : Inst) → slice_get is k ≡ Some i → IsCell e i.of) → map (new_inst (kept_places e top)) is ≡ is
insts_stay e top [] all cells = refl
insts_stay e top (i ∷ is) all cells =
    let first : new_inst (kept_places e top) i ≡ i = (let same = id_stays e top i.of all (cells 0 i refl) in λ t. record { name = i.name; of = same t; designator = i.designator; properties = i.properties }) in
    let rest = insts_stay e top is all (λ k j f. cells (suc k) j f) in
    λ t. first t ∷ rest t

cell_stays : (e : Design) (top : CellId) (c : CellBody) → AreAllKept e top → All (λ (i : Inst). IsCell e i.of) (insts_of c) → new_cell (kept_places e top) c ≡ c
cell_stays e top c all cells =
    let same = go c.contents (λ k i f. All-slice_get (λ (i : Inst). IsCell e i.of) (insts_of c) k i cells f) in
    λ t. record {
      name = c.name;
      kind = c.kind;
      properties = c.properties;
      view = c.view;
      view_properties = c.view_properties;
      interface_properties = c.interface_properties;
      ports = c.ports;
      contents = same t;
    }
  where
    go : (o : Option Contents) → ((k : ℕ) (i : Inst) → slice_get (insts_in o) k ≡ Some i → IsCell e i.of) → option_map (new_contents (kept_places e top)) o ≡ o
    go None cells = refl
    go (Some x) cells = (let same = insts_stay e top x.insts all cells in λ t. Some (record { insts = same t; nets = x.nets }))

cells_stay : (e : Design) (top : CellId) (lib : ℕ) (l : Lib) → IsValid e → AreAllKept e top → slice_get e.libs lib ≡ Some l → new_cells (kept_places e top) l.cells (kept_slots e top lib) ≡ l.cells
cells_stay e top lib l v all is = same_list (new_cells (kept_places e top) l.cells (kept_slots e top lib)) l.cells (λ slot. go slot (slice_get l.cells slot) refl)
  where
    go : (slot : ℕ) (o : Option CellBody) → slice_get l.cells slot ≡ o → slice_get (new_cells (kept_places e top) l.cells (kept_slots e top lib)) slot ≡ slice_get l.cells slot
    go slot (Some c) at =
        let there = slots_there e top lib l is in
        let valid = v.cells (id_at lib slot) c (cell_found e lib slot l c is at) in
        new_there (kept_places e top) l.cells (kept_slots e top lib) slot slot c there (slot_listed e top lib slot l c all is at) at
        ∙ ap Some (cell_stays e top c all valid.placed)
        ∙ sym at
    go slot None at =
        let past = past_end l.cells slot at in
        let long = length_new (kept_places e top) l.cells (kept_slots e top lib) (slots_there e top lib l is) in
        let slots : length (kept_slots e top lib) ≡ length l.cells = ap length (slots_all e top lib l all is) ∙ length-range_with_len 0 (length l.cells) in
        slice_get_past (new_cells (kept_places e top) l.cells (kept_slots e top lib)) slot (omega (arith, past, long, slots)) ∙ sym at

libs_stay : (e : Design) (top : CellId) → IsValid e → AreAllKept e top → kept_libs e top ≡ e.libs
libs_stay e top v all = same_list (kept_libs e top) e.libs (λ lib. lib_kept e top lib ∙ go lib (slice_get e.libs lib) refl)
  where
    go : (lib : ℕ) (o : Option Lib) → slice_get e.libs lib ≡ o → option_map (λ l. lib_with (kept_places e top) l (kept_slots e top lib)) o ≡ o
    go lib None is = refl
    go lib (Some l) is = (let same = cells_stay e top lib l v all is in λ t. Some (record { head = l.head; cells = same t }))

whole : (e : Design) (top : TopHead) → IsValid e → e.top ≡ Some top → IsCell e top.cell → AreAllKept e top.cell → kept_below e top ≡ e
whole e top v is cell all =
    let libs = libs_stay e top.cell v all in
    let same = id_stays e top.cell top.cell all cell in
    let head : Some (new_top (kept_places e top.cell) top) ≡ e.top = (λ t. Some (record { name = top.name; cell = same t; properties = top.properties })) ∙ sym is in
    λ t. record { title = e.title; libs = libs t; top = head t; notes = e.notes }

top_there : (e : Design) (top : TopHead) → IsValid e → e.top ≡ Some top → IsCell e top.cell
top_there e top v is = (subst (λ (o : Option TopHead). IfSome o (λ top. IsCell e top.cell × HasDistinctKeys top.properties)) is v.top).0

pub kept_again : (d : Design) → IsValid d → kept (kept d) ≡ kept d
kept_again d v = go d.top refl
  where
    of_none : (e : Design) → e.top ≡ None → kept e ≡ e
    of_none e none = ap (λ (o : Option TopHead). option_map_or (kept_below e) o e) none

    of_some : (e : Design) (top : TopHead) → e.top ≡ Some top → kept e ≡ kept_below e top
    of_some e top is = ap (λ (o : Option TopHead). option_map_or (kept_below e) o e) is

    go : (o : Option TopHead) → d.top ≡ o → kept (kept d) ≡ kept d
    go None none = ap kept (of_none d none)
    go (Some top) is =
        let e = kept_below d top in
        let head = new_top (kept_places d top.cell) top in
        let w = kept_below_valid d top v is in
        ap kept (of_some d top is)
        ∙ of_some e head refl
        ∙ whole e head w refl (top_there e head w refl) (all_kept d top v w)
        ∙ sym (of_some d top is)
