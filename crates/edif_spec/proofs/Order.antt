-- A design whose cells are defined before they are placed is arranged already.
use Rattle.std.proofs.Common.{◌≡◌, ℕ, zero, suc, ◌+◌, ◌<◌, ◌≤◌, List, [], ◌∷◌, ◌++◌, map, length, refl, ap, sym, ◌∙◌, subst, Bool, true, false, not, Option, Some, None, arith, append_assoc, slice_get}
use Rattle.std.specs.Prelude.{IsSome, IfSome, cond, ◌||◌, option_map, unwrap_or, nat_eq, nat_lt}
use Rattle.std.specs.List.{list_all, list_any, AllByRecursion}
use Rattle.std.proofs.lemmas.Bool.{and_from}
use Rattle.std.proofs.lemmas.Bool.Decides.{nat_tests}
use Rattle.std.proofs.lemmas.Option.{slice_get_within}
use Rattle.netlist_schema.specs.Design.{insts_in}
use Rattle.netlist_schema.proofs.Lists.{some_of}
use Rattle.edif_spec.specs.Arranged.{is_written, is_ready, first_ready, order_from, order_of, orders_from, place_in, new_id, new_inst, new_contents, new_cell, new_top, new_cells, new_libs, arranged}
use Rattle.edif_spec.specs.Defined.{AllAfter, DefinedBefore}
use Rattle.netlist_order_spec.proofs.Places.{range}
use Rattle.edif_spec.specs.Design as design
use Rattle.edif_spec.proofs.CellPlaces.{get_after, length_last, any_append, lib_of_cell}

abbrev pub upto : ℕ → List ℕ
upto zero = []
upto (suc k) = upto k ++ k ∷ []

-- instances in their own library place earlier cells
abbrev pub IsEarlier : ℕ → ℕ → design.Inst → Type 0
IsEarlier own k i = (not (nat_eq i.of.lib.0 own) || nat_lt i.of.slot k) ≡ true

abbrev pub Ordered : ℕ → ℕ → List design.CellBody → Type 0
Ordered own k [] = Unit {0}
Ordered own k (c ∷ cs) = AllByRecursion (IsEarlier own k) (design.insts_of c) × Ordered own (suc k) cs

in_upto : (s k : ℕ) → list_any (nat_eq s) (upto k) ≡ nat_lt s k
in_upto s zero = grind (arith, nat_tests)
in_upto s (suc k) = any_append (nat_eq s) (upto k) (k ∷ []) ∙ (ap (λ v. v || (nat_eq s k || false)) (in_upto s k) ∙ grind (arith, nat_tests))

or_same : (a b c : Bool) → b ≡ c → (a || c) ≡ true → (a || b) ≡ true
or_same a b c e h = ap (λ v. a || v) e ∙ h

all_written : (own k : ℕ) (is : List design.Inst) → AllByRecursion (IsEarlier own k) is → list_all (is_written own (upto k)) is ≡ true
all_written own k [] h = refl
all_written own k (i ∷ is) h = and_from (is_written own (upto k) i) (list_all (is_written own (upto k)) is)
    (or_same (not (nat_eq i.of.lib.0 own)) (list_any (nat_eq i.of.slot) (upto k)) (nat_lt i.of.slot k) (in_upto i.of.slot k) h.0) (all_written own k is h.1)

first_at : (own k j : ℕ) (cs : List design.CellBody) → j ≤ k → k < j + length cs → Ordered own j cs → first_ready own (upto k) j cs ≡ Some k
first_at own k j [] l m h = absurd (omega arith)
first_at own k j (c ∷ cs) l m h = go (nat_lt j k) refl (λ n. first_at own k (suc j) cs n (omega arith) h.1)
  where
    ready : j ≡ k → is_ready own (upto k) j c ≡ true
    ready e = and_from (not (list_any (nat_eq j) (upto k))) (list_all (is_written own (upto k)) (design.insts_of c)) (ap not (in_upto j k) ∙ grind (arith, nat_tests)) (all_written own k (design.insts_of c) (let P : ℕ → Type 0 = λ v. AllByRecursion (IsEarlier own v) (design.insts_of c) in subst P e h.0))

    go : (b : Bool) → nat_lt j k ≡ b → (suc j ≤ k → first_ready own (upto k) (suc j) cs ≡ Some k) → cond (is_ready own (upto k) j c) (Some j) (first_ready own (upto k) (suc j) cs) ≡ Some k
    go true e more = let w : list_any (nat_eq j) (upto k) ≡ true = in_upto j k ∙ e in rw w (more (grind (arith, nat_tests)))
    go false e more = let q : j ≡ k = grind (arith, nat_tests) in rw (ready q) (ap Some q)

order_range : (own : ℕ) (cells : List design.CellBody) (n k : ℕ) → k + n ≡ length cells → Ordered own 0 cells → order_from own cells n (upto k) ≡ range k n
order_range own cells zero k e h = refl
order_range own cells (suc n) k e h =
    rw (first_at own k 0 cells (omega arith) (omega arith) h) (ap (λ v. k ∷ v) (order_range own cells n (suc k) (omega arith) h))

pub ordered_order : (own : ℕ) (cells : List design.CellBody) → Ordered own 0 cells → order_of own cells ≡ range 0 (length cells)
ordered_order own cells h = order_range own cells (length cells) 0 (omega arith) h

place_range : (s k n : ℕ) → k ≤ s → s < k + n → place_in s (range k n) + k ≡ s
place_range s k zero l m = absurd (omega arith)
place_range s k (suc n) l m = go (nat_eq s k) refl (λ w. place_range s (suc k) n w (omega arith))
  where
    go : (b : Bool) → nat_eq s k ≡ b → (suc k ≤ s → place_in s (range (suc k) n) + suc k ≡ s) → cond b 0 (suc (place_in s (range (suc k) n))) + k ≡ s
    go true e more = grind (arith, nat_tests)
    go false e more = let w : suc k ≤ s = grind (arith, nat_tests) in let r = more w in omega (arith, r)

-- the order of each library is 0, 1 and so on
InOrder : List (List ℕ) → List design.Lib → Type 0
InOrder orders libs = (i : ℕ) (l : design.Lib) → slice_get libs i ≡ Some l → slice_get orders i ≡ Some (range 0 (length l.cells))

-- so the ids of cells that are there stay
same_id : (orders : List (List ℕ)) (libs : List design.Lib) (id : design.CellId) → InOrder orders libs → IsSome (design.cell_at libs id) → new_id orders id ≡ id
unfolding InOrder
same_id orders libs id o h =
    let c = some_of (design.cell_at libs id) h in
    let l = lib_of_cell libs id c.0 c.1 in
    let below : id.slot < length l.0.cells = slice_get_within l.0.cells id.slot c.0 l.2 in
    let p : place_in id.slot (range 0 (length l.0.cells)) ≡ id.slot = (let r = place_range id.slot 0 (length l.0.cells) (omega arith) (omega arith) in omega (arith, r)) in
    let slot : unwrap_or (option_map (place_in id.slot) (slice_get orders id.lib.0)) id.slot ≡ id.slot = ap (λ v. unwrap_or (option_map (place_in id.slot) v) id.slot) (o id.lib.0 l.0 l.1) ∙ p in
    λ i. record { lib = id.lib; slot = slot i }

abbrev pub ArePlaced : List design.Lib → List design.Inst → Type 0
ArePlaced libs is = AllByRecursion (λ i. IsSome (design.cell_at libs i.of)) is

same_insts : (orders : List (List ℕ)) (libs : List design.Lib) (is : List design.Inst) → InOrder orders libs → ArePlaced libs is → map (new_inst orders) is ≡ is
same_insts orders libs [] o h = refl
same_insts orders libs (x ∷ is) o h =
    let e : new_id orders x.of ≡ x.of = same_id orders libs x.of o h.0 in
    let f : new_inst orders x ≡ x = λ i. record { name = x.name; of = e i; designator = x.designator; properties = x.properties } in
    let r : map (new_inst orders) is ≡ is = same_insts orders libs is o h.1 in cc

same_cell : (orders : List (List ℕ)) (libs : List design.Lib) (c : design.CellBody) → InOrder orders libs → ArePlaced libs (design.insts_of c) → new_cell orders c ≡ c
same_cell orders libs c o h =
    let e : option_map (new_contents orders) c.contents ≡ c.contents = go c.contents h in
    λ i. record { name = c.name; kind = c.kind; properties = c.properties; view = c.view; view_properties = c.view_properties; interface_properties = c.interface_properties; ports = c.ports; contents = e i }
  where
    go : (x : Option design.Contents) → ArePlaced libs (insts_in x) → option_map (new_contents orders) x ≡ x
    go None k = refl
    go (Some x) k = let e : map (new_inst orders) x.insts ≡ x.insts = same_insts orders libs x.insts o k in ap Some (λ i. record { insts = e i; nets = x.nets })

same_cells : (orders : List (List ℕ)) (front cells : List design.CellBody) → AllByRecursion (λ c. new_cell orders c ≡ c) cells → new_cells orders (front ++ cells) (range (length front) (length cells)) ≡ cells
same_cells orders front [] h = refl
same_cells orders front (c ∷ cells) h =
    let g : slice_get (front ++ c ∷ cells) (length front) ≡ Some c = get_after front c cells in
    let one : option_map (new_cell orders) (slice_get (front ++ c ∷ cells) (length front)) ≡ Some c = ap (option_map (new_cell orders)) g ∙ ap Some h.0 in
    let n : length (front ++ c ∷ []) ≡ suc (length front) = length_last front c in
    let all : front ++ c ∷ cells ≡ (front ++ c ∷ []) ++ cells = sym (append_assoc front (c ∷ []) cells) in
    let r : new_cells orders (front ++ c ∷ cells) (range (suc (length front)) (length cells)) ≡ cells =
    ap (λ v. new_cells orders v (range (suc (length front)) (length cells))) all ∙ (ap (λ k. new_cells orders ((front ++ c ∷ []) ++ cells) (range k (length cells))) (sym n) ∙ same_cells orders (front ++ c ∷ []) cells h.1) in
    rw one (ap (λ v. c ∷ v) r)

-- cells that are defined before those that place them are in order
abbrev Scope : List design.Lib → design.LibHead → List design.CellBody → List design.Lib
Scope before head cells = before ++ record { head = head; cells = cells } ∷ []

in_scope : (before : List design.Lib) (x : design.Lib) (id : design.CellId) → IsSome (design.cell_at (before ++ x ∷ []) id) → nat_eq id.lib.0 (length before) ≡ true → id.slot < length x.cells
in_scope before x id h e =
    let c = some_of (design.cell_at (before ++ x ∷ []) id) h in
    let l = lib_of_cell (before ++ x ∷ []) id c.0 c.1 in
    let q : id.lib.0 ≡ length before = grind (arith, nat_tests) in
    let there : slice_get (before ++ x ∷ []) id.lib.0 ≡ Some x = ap (slice_get (before ++ x ∷ [])) q ∙ get_after before x [] in
    let s : Some l.0 ≡ Some x = sym l.1 ∙ there in
    let m : l.0 ≡ x = cc s in
    slice_get_within x.cells id.slot c.0 (ap (λ (v : design.Lib). slice_get v.cells id.slot) (sym m) ∙ l.2)

earlier : (before : List design.Lib) (head : design.LibHead) (cells : List design.CellBody) (i : design.Inst) → IsSome (design.cell_at (Scope before head cells) i.of) → IsEarlier (length before) (length cells) i
earlier before head cells i h = go (nat_eq i.of.lib.0 (length before)) refl (in_scope before (record { head = head; cells = cells }) i.of h)
  where
    go : (b : Bool) → nat_eq i.of.lib.0 (length before) ≡ b → (nat_eq i.of.lib.0 (length before) ≡ true → i.of.slot < length cells) → (not b || nat_lt i.of.slot (length cells)) ≡ true
    go true e f = let l : i.of.slot < length cells = f e in grind (arith, nat_tests)
    go false e f = refl

all_earlier : (before : List design.Lib) (head : design.LibHead) (cells : List design.CellBody) (is : List design.Inst) → ArePlaced (Scope before head cells) is → AllByRecursion (IsEarlier (length before) (length cells)) is
all_earlier before head cells [] h = tt
all_earlier before head cells (i ∷ is) h = (earlier before head cells i h.0, all_earlier before head cells is h.1)

ordered_from : (before : List design.Lib) (head : design.LibHead) (front cells : List design.CellBody) → AllAfter (λ b c. ArePlaced (Scope before head b) (design.insts_of c)) front cells → Ordered (length before) (length front) cells
ordered_from before head front [] h = tt
ordered_from before head front (c ∷ cells) h =
    let P : ℕ → Type 0 = λ k. Ordered (length before) k cells in
    (all_earlier before head front (design.insts_of c) h.0, subst P (length_last front c) (ordered_from before head (front ++ c ∷ []) cells h.1))

abbrev DefinedLib : List design.Lib → design.Lib → Type 0
DefinedLib before l = AllAfter (λ b c. ArePlaced (Scope before l.head b) (design.insts_of c)) [] l.cells

lib_order : (before : List design.Lib) (l : design.Lib) → DefinedLib before l → order_of (length before) l.cells ≡ range 0 (length l.cells)
lib_order before l h = ordered_order (length before) l.cells (ordered_from before l.head [] l.cells h)

orders_at : (before libs : List design.Lib) → AllAfter DefinedLib before libs → (i : ℕ) (l : design.Lib) → slice_get libs i ≡ Some l → slice_get (orders_from (length before) libs) i ≡ Some (range 0 (length l.cells))
orders_at before [] h i l e = absurd (cc e)
orders_at before (x ∷ libs) h zero l e = let w : x ≡ l = cc e in ap Some (lib_order before x h.0) ∙ ap (λ (v : design.Lib). Some (range 0 (length v.cells))) w
orders_at before (x ∷ libs) h (suc i) l e = ap (λ k. slice_get (orders_from k libs) i) (sym (length_last before x)) ∙ orders_at (before ++ x ∷ []) libs h.1 i l e

-- each instance of each cell is of a cell among these libraries
abbrev pub EachPlaced : List design.Lib → List design.Lib → Type 0
EachPlaced all libs = AllByRecursion (λ (l : design.Lib). AllByRecursion (λ (c : design.CellBody). ArePlaced all (design.insts_of c)) l.cells) libs

cells_stay : (orders : List (List ℕ)) (libs : List design.Lib) (cells : List design.CellBody) → InOrder orders libs → AllByRecursion (λ (c : design.CellBody). ArePlaced libs (design.insts_of c)) cells → AllByRecursion (λ c. new_cell orders c ≡ c) cells
cells_stay orders libs [] o h = tt
cells_stay orders libs (c ∷ cells) o h = (same_cell orders libs c o h.0, cells_stay orders libs cells o h.1)

libs_stay : (orders : List (List ℕ)) (all before libs : List design.Lib) → InOrder orders all → EachPlaced all libs → AllAfter DefinedLib before libs → new_libs orders (length before) libs ≡ libs
libs_stay orders all before [] o v h = refl
libs_stay orders all before (l ∷ libs) o v h =
    let c : new_cells orders l.cells (order_of (length before) l.cells) ≡ l.cells =
    ap (new_cells orders l.cells) (lib_order before l h.0) ∙ same_cells orders [] l.cells (cells_stay orders all l.cells o v.0) in
    let e : record { head = l.head; cells = new_cells orders l.cells (order_of (length before) l.cells) } ≡ l = λ i. record { head = l.head; cells = c i } in
    let r : new_libs orders (suc (length before)) libs ≡ libs = ap (λ k. new_libs orders k libs) (sym (length_last before l)) ∙ libs_stay orders all (before ++ l ∷ []) libs o v.1 h.1 in
    ap (λ (x : design.Lib). x ∷ new_libs orders (suc (length before)) libs) e ∙ ap (λ v. l ∷ v) r

-- a design whose instances and top are of cells that are there, each defined before it is placed
pub stays : (d : design.Design) → EachPlaced d.libs d.libs → IfSome d.top (λ t. IsSome (design.cell_at d.libs t.cell)) → DefinedBefore d → arranged d ≡ d
unfolding InOrder
stays d v top b =
    let ls : new_libs (orders_from 0 d.libs) 0 d.libs ≡ d.libs = libs_stay (orders_from 0 d.libs) d.libs [] d.libs (orders_at [] d.libs b) v b in
    let t : option_map (new_top (orders_from 0 d.libs)) d.top ≡ d.top = go d.top top in
    λ i. record { title = d.title; libs = ls i; top = t i; notes = d.notes }
  where
    go : (x : Option design.TopHead) → IfSome x (λ t. IsSome (design.cell_at d.libs t.cell)) → option_map (new_top (orders_from 0 d.libs)) x ≡ x
    go None h = refl
    go (Some x) h = let e : new_id (orders_from 0 d.libs) x.cell ≡ x.cell = same_id (orders_from 0 d.libs) d.libs x.cell (orders_at [] d.libs b) h in
        ap Some (λ i. record { name = x.name; cell = e i; properties = x.properties })
