-- In the arranged design each placed cell is defined before the cell that places it; and where this is so, the design is arranged.
use Rattle.std.proofs.Common.{◌≡◌, ◌≢◌, ℕ, suc, ◌+◌, ◌<◌, ◌≤◌, List, [], ◌∷◌, ◌++◌, map, length, refl, ap, sym, ◌∙◌, subst, Bool, true, false, not, Option, Some, None, arith, append_assoc, slice_get}
use Rattle.std.specs.Prelude.{IsSome, is_some, IfSome, cond, ◌||◌, option_map, unwrap_or, nat_eq}
use Rattle.std.specs.List.{AllByRecursion, list_all, list_any}
use Rattle.std.specs.Option.{option_map_or}
use Rattle.std.proofs.lemmas.Bool.{and_parts, eqb-true, eqb-false}
use Rattle.std.proofs.lemmas.List.Elements.{recursion_from_All}
use Rattle.netlist_schema.specs.Hierarchy.{IsCell}
use Rattle.netlist_schema.specs.Names.{HasDistinctKeys}
use Rattle.netlist_schema.specs.Valid.{IsValid}
use Rattle.netlist_schema.proofs.Lists.{get_front, all_at, all_from_places, some_of}
use Rattle.edif_spec.specs.Arranged.{is_written, order_of, orders_from, place_in, new_id, new_inst, new_cell, new_cells, new_libs, arranged}
use Rattle.edif_spec.specs.Defined.{AllAfter, DefinedBefore}
use Rattle.edif_spec.specs.Design as design
use Rattle.edif_spec.proofs.Arrange.{AllThere, AreWhole, valid_whole, place_found, new_there, own_order, cell_moved, insts_new, arranged_valid}
use Rattle.edif_spec.proofs.CellPlaces.{get_after, length_last, lib_of_cell, cell_found}
use Rattle.edif_spec.proofs.Order.{ArePlaced, EachPlaced, stays}
use Rattle.netlist_order_spec.proofs.Ready.{StepReady, order_ready}
use Rattle.netlist_order_spec.proofs.WholeOrder.{id_at}

place_front : (s : ℕ) (w r : List ℕ) → list_any (nat_eq s) w ≡ true → place_in s (w ++ r) ≡ place_in s w
place_front s [] r h = absurd (cc h)
place_front s (k ∷ w) r h = go (nat_eq s k) h (place_front s w r)
  where
    go : (b : Bool) → (b || list_any (nat_eq s) w) ≡ true → (list_any (nat_eq s) w ≡ true → place_in s (w ++ r) ≡ place_in s w) → cond b 0 (suc (place_in s (w ++ r))) ≡ cond b 0 (suc (place_in s w))
    go true h more = refl
    go false h more = ap suc (more h)

-- an instance is of a cell that is there, in a library that is not later
abbrev IsPlacedIn : List design.Lib → ℕ → design.Inst → Type 0
IsPlacedIn libs own i = IsSome (design.cell_at libs i.of) × (i.of.lib.0 ≤ own)

abbrev CellsPlacedIn : List design.Lib → ℕ → List design.CellBody → Type 0
CellsPlacedIn libs own cells = AllByRecursion (λ (c : design.CellBody). AllByRecursion (IsPlacedIn libs own) (design.insts_of c)) cells

-- a library in the middle of its order
record Middle (libs before rest before' : List design.Lib) (l : design.Lib) (written later : List ℕ) : Type 0 where
  pub old : before ++ l ∷ rest ≡ libs
  pub new : before' ++ new_libs (orders_from 0 libs) (length before) (l ∷ rest) ≡ new_libs (orders_from 0 libs) 0 libs
  pub size : length before' ≡ length before
  pub split : written ++ later ≡ order_of (length before) l.cells
  pub there : AllThere l.cells written

abbrev Now : List design.Lib → List (List ℕ) → design.Lib → List ℕ → List design.Lib
Now before' orders l written = before' ++ record { head = l.head; cells = new_cells orders l.cells written } ∷ []

middle_lib : (libs before rest before' : List design.Lib) (l : design.Lib) (written later : List ℕ) → Middle libs before rest before' l written later → slice_get libs (length before) ≡ Some l
middle_lib libs before rest before' l written later m = ap (λ v. slice_get v (length before)) (sym m.old) ∙ get_after before l rest

in_own : (libs before rest before' : List design.Lib) (l : design.Lib) (written later : List ℕ) (id : design.CellId) → Middle libs before rest before' l written later → IsSome (design.cell_at libs id) → id.lib.0 ≡ length before → list_any (nat_eq id.slot) written ≡ true →
    IsSome (design.cell_at (Now before' (orders_from 0 libs) l written) (new_id (orders_from 0 libs) id))
in_own libs before rest before' l written later id m h q w =
    let c = some_of (design.cell_at libs id) h in
    let k = lib_of_cell libs id c.0 c.1 in
    let s : Some k.0 ≡ Some l = sym k.1 ∙ (ap (slice_get libs) q ∙ middle_lib libs before rest before' l written later m) in
    let e : k.0 ≡ l = cc s in
    let cell : slice_get l.cells id.slot ≡ Some c.0 = ap (λ (v : design.Lib). slice_get v.cells id.slot) (sym e) ∙ k.2 in
    let o : slice_get (orders_from 0 libs) id.lib.0 ≡ Some (order_of (length before) l.cells) = ap (slice_get (orders_from 0 libs)) q ∙ own_order libs (length before) l (middle_lib libs before rest before' l written later m) in
    let place : unwrap_or (option_map (place_in id.slot) (slice_get (orders_from 0 libs) id.lib.0)) id.slot ≡ place_in id.slot written =
    ap (λ v. unwrap_or (option_map (place_in id.slot) v) id.slot) o ∙ (ap (place_in id.slot) (sym m.split) ∙ place_front id.slot written later w) in
    let at : slice_get (Now before' (orders_from 0 libs) l written) id.lib.0 ≡ Some (record { head = l.head; cells = new_cells (orders_from 0 libs) l.cells written }) =
    ap (slice_get (Now before' (orders_from 0 libs) l written)) (q ∙ sym m.size) ∙ get_after before' (record { head = l.head; cells = new_cells (orders_from 0 libs) l.cells written }) [] in
    let found = new_there (orders_from 0 libs) l.cells written (place_in id.slot written) id.slot c.0 m.there (place_found id.slot written w) cell in
    ap (λ v. is_some (slice_get (option_map_or (λ (x : design.Lib). x.cells) v []) (unwrap_or (option_map (place_in id.slot) (slice_get (orders_from 0 libs) id.lib.0)) id.slot))) at
    ∙ (ap (λ v. is_some (slice_get (new_cells (orders_from 0 libs) l.cells written) v)) place ∙ ap is_some found)

in_earlier : (libs before rest before' : List design.Lib) (l : design.Lib) (written later : List ℕ) (id : design.CellId) → AreWhole libs → Middle libs before rest before' l written later → IsSome (design.cell_at libs id) → id.lib.0 < length before →
    IsSome (design.cell_at (Now before' (orders_from 0 libs) l written) (new_id (orders_from 0 libs) id))
in_earlier libs before rest before' l written later id r m h q =
    let c = some_of (design.cell_at libs id) h in
    let size : length before' ≡ length before = m.size in
    let low : id.lib.0 < length before' = omega (arith, size, q) in
    let x : design.Lib = record { head = l.head; cells = new_cells (orders_from 0 libs) l.cells written } in
    let at : slice_get (Now before' (orders_from 0 libs) l written) id.lib.0 ≡ slice_get (new_libs (orders_from 0 libs) 0 libs) id.lib.0 =
    get_front before' (x ∷ []) id.lib.0 low ∙ (sym (get_front before' (new_libs (orders_from 0 libs) (length before) (l ∷ rest)) id.lib.0 low) ∙ ap (λ v. slice_get v id.lib.0) m.new) in
    ap (λ v. is_some (slice_get (option_map_or (λ (y : design.Lib). y.cells) v []) (unwrap_or (option_map (place_in id.slot) (slice_get (orders_from 0 libs) id.lib.0)) id.slot))) at ∙ ap is_some (cell_moved libs id c.0 r c.1)

inst_before : (libs before rest before' : List design.Lib) (l : design.Lib) (written later : List ℕ) (i : design.Inst) → AreWhole libs → Middle libs before rest before' l written later → IsPlacedIn libs (length before) i → is_written (length before) written i ≡ true →
    IsSome (design.cell_at (Now before' (orders_from 0 libs) l written) (new_id (orders_from 0 libs) i.of))
inst_before libs before rest before' l written later i r m v w = go (nat_eq i.of.lib.0 (length before)) refl w
  where
    go : (b : Bool) → nat_eq i.of.lib.0 (length before) ≡ b → (not b || list_any (nat_eq i.of.slot) written) ≡ true → IsSome (design.cell_at (Now before' (orders_from 0 libs) l written) (new_id (orders_from 0 libs) i.of))
    go true e w = in_own libs before rest before' l written later i.of m v.0 (eqb-true i.of.lib.0 (length before) e) w
    go false e w = let n : i.of.lib.0 ≢ length before = eqb-false i.of.lib.0 (length before) e in let o : i.of.lib.0 ≤ length before = v.1 in in_earlier libs before rest before' l written later i.of r m v.0 (omega (arith, n, o))

insts_before : (libs before rest before' : List design.Lib) (l : design.Lib) (written later : List ℕ) (is : List design.Inst) → AreWhole libs → Middle libs before rest before' l written later → AllByRecursion (IsPlacedIn libs (length before)) is → list_all (is_written (length before) written) is ≡ true →
    ArePlaced (Now before' (orders_from 0 libs) l written) (map (new_inst (orders_from 0 libs)) is)
insts_before libs before rest before' l written later [] r m v w = tt
insts_before libs before rest before' l written later (i ∷ is) r m v w =
    let b = and_parts (is_written (length before) written i) (list_all (is_written (length before) written) is) w in
    (inst_before libs before rest before' l written later i r m v.0 b.0, insts_before libs before rest before' l written later is r m v.1 b.1)

there_last : (cells : List design.CellBody) (w : List ℕ) (k : ℕ) (c : design.CellBody) → AllThere cells w → slice_get cells k ≡ Some c → AllThere cells (w ++ k ∷ [])
there_last cells [] k c h e = ((c, e), tt)
there_last cells (j ∷ w) k c h e = (h.0, there_last cells w k c h.1 e)

cells_last : (orders : List (List ℕ)) (cells : List design.CellBody) (w : List ℕ) (k : ℕ) (c : design.CellBody) → AllThere cells w → slice_get cells k ≡ Some c → new_cells orders cells (w ++ k ∷ []) ≡ new_cells orders cells w ++ new_cell orders c ∷ []
cells_last orders cells [] k c h e = rw e refl
cells_last orders cells (j ∷ w) k c h e = rw h.0.1 (ap (λ v. new_cell orders h.0.0 ∷ v) (cells_last orders cells w k c h.1 e))

-- the cells of a library, one after another
abbrev DefinedCells : List design.Lib → design.LibHead → List design.CellBody → List design.CellBody → Type 0
DefinedCells before' head = AllAfter (λ cells c. ArePlaced (before' ++ record { head = head; cells = cells } ∷ []) (design.insts_of c))

cells_before : (libs before rest before' : List design.Lib) (l : design.Lib) (written later : List ℕ) → AreWhole libs → CellsPlacedIn libs (length before) l.cells → Middle libs before rest before' l written later → AllAfter (StepReady (length before) l.cells) written later →
    DefinedCells before' l.head (new_cells (orders_from 0 libs) l.cells written) (new_cells (orders_from 0 libs) l.cells later)
cells_before libs before rest before' l written [] r v m h = tt
cells_before libs before rest before' l written (k ∷ later) r v m h =
    let ready = and_parts (not (list_any (nat_eq k) written)) (list_all (is_written (length before) written) (design.insts_of h.0.0)) h.0.2 in
    let placed = all_at (λ (c : design.CellBody). AllByRecursion (IsPlacedIn libs (length before)) (design.insts_of c)) l.cells k h.0.0 v h.0.1 in
    let P : List design.Inst → Type 0 = λ is. ArePlaced (Now before' (orders_from 0 libs) l written) is in
    let here = subst P (sym (insts_new (orders_from 0 libs) h.0.0)) (insts_before libs before rest before' l written (k ∷ later) (design.insts_of h.0.0) r m placed ready.1) in
    let next : Middle libs before rest before' l (written ++ k ∷ []) later = record { old = m.old; new = m.new; size = m.size; split = append_assoc written (k ∷ []) later ∙ m.split; there = there_last l.cells written k h.0.0 m.there h.0.1 } in
    let Q : List design.CellBody → Type 0 = λ cs. DefinedCells before' l.head cs (new_cells (orders_from 0 libs) l.cells later) in
    rw h.0.1 (here, subst Q (cells_last (orders_from 0 libs) l.cells written k h.0.0 m.there h.0.1) (cells_before libs before rest before' l (written ++ k ∷ []) later r v next h.1))

libs_before : (libs before rest before' : List design.Lib) → AreWhole libs → before ++ rest ≡ libs → before' ++ new_libs (orders_from 0 libs) (length before) rest ≡ new_libs (orders_from 0 libs) 0 libs → length before' ≡ length before → AllAfter (λ b l. CellsPlacedIn libs (length b) l.cells) before rest →
    AllAfter (λ b l. DefinedCells b l.head [] l.cells) before' (new_libs (orders_from 0 libs) (length before) rest)
libs_before libs before [] before' r e f n v = tt
libs_before libs before (l ∷ rest) before' r e f n v =
    let x : design.Lib = record { head = l.head; cells = new_cells (orders_from 0 libs) l.cells (order_of (length before) l.cells) } in
    let m : Middle libs before rest before' l [] (order_of (length before) l.cells) = record { old = e; new = f; size = n; split = refl; there = tt } in
    let a : length (before ++ l ∷ []) ≡ suc (length before) = length_last before l in
    let b : length (before' ++ x ∷ []) ≡ suc (length before') = length_last before' x in
    let g : (before' ++ x ∷ []) ++ new_libs (orders_from 0 libs) (length (before ++ l ∷ [])) rest ≡ new_libs (orders_from 0 libs) 0 libs =
    ap (λ k. (before' ++ x ∷ []) ++ new_libs (orders_from 0 libs) k rest) a ∙ (append_assoc before' (x ∷ []) (new_libs (orders_from 0 libs) (suc (length before)) rest) ∙ f) in
    let Q : ℕ → Type 0 = λ k. AllAfter (λ b l. DefinedCells b l.head [] l.cells) (before' ++ x ∷ []) (new_libs (orders_from 0 libs) k rest) in (
      cells_before libs before rest before' l [] (order_of (length before) l.cells) r v.0 m (order_ready (length before) l.cells (length l.cells) []),
      subst Q a (libs_before libs (before ++ l ∷ []) rest (before' ++ x ∷ []) r (append_assoc before (l ∷ []) rest ∙ e) g (omega (arith, a, b, n)) v.1),
    )

-- what is placed in a valid design
after_from_places : {A : Type 0} (P : ℕ → A → Type 0) (before xs : List A) → ((i : ℕ) (x : A) → slice_get xs i ≡ Some x → P (length before + i) x) → AllAfter (λ b x. P (length b) x) before xs
after_from_places P before [] f = tt
after_from_places P before (x ∷ xs) f =
    let z : length before + 0 ≡ length before = omega arith in
    let n : length (before ++ x ∷ []) ≡ suc (length before) = length_last before x in
    (subst (λ k. P k x) z (f 0 x refl), after_from_places P (before ++ x ∷ []) xs (λ i y e. let s : length before + suc i ≡ length (before ++ x ∷ []) + i = omega arith in subst (λ k. P k y) s (f (suc i) y e)))

pub zip_all : {A : Type 0} (P Q : A → Type 0) (xs : List A) → AllByRecursion P xs → AllByRecursion Q xs → AllByRecursion (λ x. P x × Q x) xs
zip_all P Q [] h k = tt
zip_all P Q (x ∷ xs) h k = ((h.0, k.0), zip_all P Q xs h.1 k.1)

cells_placed : (d : design.Design) (own : ℕ) (l : design.Lib) → IsValid d → slice_get d.libs own ≡ Some l → CellsPlacedIn d.libs own l.cells
cells_placed d own l v e = all_from_places (λ (c : design.CellBody). AllByRecursion (IsPlacedIn d.libs own) (design.insts_of c)) l.cells (λ slot c f.
    let valid = v.cells (id_at own slot) c (cell_found d.libs own slot l c e f) in
    zip_all (λ (i : design.Inst). IsSome (design.cell_at d.libs i.of)) (λ (i : design.Inst). i.of.lib.0 ≤ own) (design.insts_of c)
    (recursion_from_All (λ (i : design.Inst). IsCell d i.of) (design.insts_of c) valid.placed) (recursion_from_All (λ (i : design.Inst). i.of.lib.0 ≤ own) (design.insts_of c) valid.not_later))

pub arranged_defined : (d : design.Design) → IsValid d → DefinedBefore (arranged d)
arranged_defined d v = libs_before d.libs [] d.libs [] (valid_whole d v) refl refl refl (after_from_places (λ k l. CellsPlacedIn d.libs k l.cells) [] d.libs (λ i l e.
    let z : i ≡ 0 + i = omega arith in subst (λ k. CellsPlacedIn d.libs k l.cells) z (cells_placed d i l v e)))

-- a valid design whose cells are in order is arranged
each_placed : (d : design.Design) → IsValid d → EachPlaced d.libs d.libs
each_placed d v = all_from_places (λ (l : design.Lib). AllByRecursion (λ (c : design.CellBody). ArePlaced d.libs (design.insts_of c)) l.cells) d.libs (λ own l e.
    all_from_places (λ (c : design.CellBody). ArePlaced d.libs (design.insts_of c)) l.cells (λ slot c f.
    recursion_from_All (λ (i : design.Inst). IsCell d i.of) (design.insts_of c) (v.cells (id_at own slot) c (cell_found d.libs own slot l c e f)).placed))

pub defined_stays : (d : design.Design) → IsValid d → DefinedBefore d → arranged d ≡ d
defined_stays d v b = stays d (each_placed d v) (go d.top v.top) b
  where
    go : (o : Option design.TopHead) → IfSome o (λ t. IsCell d t.cell × HasDistinctKeys t.properties) → IfSome o (λ t. IsSome (design.cell_at d.libs t.cell))
    go None h = tt
    go (Some t) h = h.0

pub arranged_stays : (d : design.Design) → IsValid d → arranged (arranged d) ≡ arranged d
arranged_stays d v = defined_stays (arranged d) (arranged_valid d v) (arranged_defined d v)
