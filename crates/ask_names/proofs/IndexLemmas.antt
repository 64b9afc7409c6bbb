-- The orders of the cells of a library, of all cells, and of one; names in a cell differ.
use Rattle.std.proofs.Common.{◌≡◌, ◌<◌, ◌+◌, ℕ, List, [], ◌∷◌, ◌++◌, length, map, refl, sym, ap, subst, ◌∙◌, inl, inr, arith, Some, None, Option, slice_get}
use Rattle.std.specs.Prelude.{IsSome, MatchOption, option_and_then}
use Rattle.std.specs.Borrow.{Bor}
use Rattle.std.specs.Option.{option_copied, option_map_or}
use Rattle.std.proofs.lemmas.Bool.{cases_eq}
use Rattle.std.proofs.lemmas.List.{length_push, map_push}
use Rattle.std.proofs.lemmas.Option.{none-some, same_Some, slice_get_within}
use Rattle.netlist_schema.specs.Design.{Design, cell_at, cells_in, insts_of, nets_of}
use Rattle.netlist_schema.specs.Names.{AreDistinct}
use Rattle.netlist_schema.specs.Types.{CellBody, CellId, Lib}
use Rattle.netlist_schema.specs.Valid.{IsValid}
use Rattle.netlist_schema.proofs.Lists.{get_behind, get_still, some_of}
use Rattle.ask_names.specs.Orders.{AreOrders, AreOrdersOf, AreRow, inst_names, net_names, orders_in, port_names}
use Rattle.ask_names.specs.declared.index.Orders.{Orders}

-- ---- one more

pub no_row : (d : Design) (lib : ℕ) → AreRow d lib 0 []
no_row d lib = record { long = refl; each = λ slot before. absurd (omega (arith, before)) }

one_behind : {A : Type 0} (xs : List A) (x : A) (k : ℕ) → k ≡ length xs → slice_get (xs ++ x ∷ []) k ≡ Some x
one_behind xs x k at =
    let place : k ≡ length xs + 0 = omega (arith, at) in
    ap (slice_get (xs ++ x ∷ [])) place ∙ get_behind xs (x ∷ []) 0

pub row_more : (d : Design) (lib count : ℕ) (row : List Orders) (orders : Orders) → AreRow d lib count row
    → AreOrdersOf d (record { lib = record { 0 = lib }; slot = count }) orders → AreRow d lib (count + 1) (row ++ orders ∷ [])
row_more d lib count row orders h one = record {
  long = length_push row orders ∙ ap (λ n. n + 1) h.long;
  each = λ slot before. elim (cases_eq slot count) [
    | inl at ↦ (
      orders,
      one_behind row orders slot (at ∙ sym h.long),
      subst (λ s. AreOrdersOf d (record { lib = record { 0 = lib }; slot = s }) orders) (sym at) one,
    )
    | inr apart ↦
        let fewer : slot < count = grind (arith, before, apart) in
        let early = h.each slot fewer in
        (early.0, get_still row (orders ∷ []) slot early.0 early.1, early.2)
  ];
}

-- the rows of the first so many libraries
pub record AreRows (d : Design) (count : ℕ) (cells : List (List Orders)) : Type 0 where
  pub long : length cells ≡ count
  pub each : (lib : ℕ) → lib < count → (row : List Orders) × (slice_get cells lib ≡ Some row) × AreRow d lib (length (cells_in d (record { 0 = lib }))) row

pub no_rows : (d : Design) → AreRows d 0 []
no_rows d = record { long = refl; each = λ lib before. absurd (omega (arith, before)) }

pub rows_more : (d : Design) (count : ℕ) (cells : List (List Orders)) (row : List Orders) → AreRows d count cells
    → AreRow d count (length (cells_in d (record { 0 = count }))) row → AreRows d (count + 1) (cells ++ row ∷ [])
rows_more d count cells row h one = record {
  long = length_push cells row ∙ ap (λ n. n + 1) h.long;
  each = λ lib before. elim (cases_eq lib count) [
    | inl at ↦ (
      row,
      one_behind cells row lib (at ∙ sym h.long),
      subst (λ l. AreRow d l (length (cells_in d (record { 0 = l }))) row) (sym at) one,
    )
    | inr apart ↦
        let fewer : lib < count = grind (arith, before, apart) in
        let early = h.each lib fewer in
        (early.0, get_still cells (row ∷ []) lib early.0 early.1, early.2)
  ];
}

-- one element more, as it is seen
pub pushed : {R T : Type 0} (old new : List R) (x : R) → new ≡ old ++ x ∷ [] → (f : R → T) → map f old ++ f x ∷ [] ≡ map f new
pushed old new x is f = sym (ap (map f) is ∙ map_push f old x)

-- ---- all cells

lib_there : (o : Option Lib) (slot : ℕ) (body : CellBody) → slice_get (option_map_or (λ lib. lib.cells) o []) slot ≡ Some body → (lib : Lib) × (o ≡ Some lib)
lib_there None slot body is = absurd (none-some body is)
lib_there (Some lib) slot body is = (lib, refl)

pub all_orders : (d : Design) (cells : List (List Orders)) → AreRows d (length d.libs) cells → AreOrders d cells
all_orders d cells h c is =
    let body = some_of (cell_at d c) is in
    let lib = lib_there (slice_get d.libs c.lib.0) c.slot body.0 body.1 in
    let row = h.each c.lib.0 (slice_get_within d.libs c.lib.0 lib.0 lib.1) in
    let orders = row.2.each c.slot (slice_get_within (cells_in d c.lib) c.slot body.0 body.1) in
    (orders.0, ap (option_and_then (λ (r : List Orders). slice_get r c.slot)) row.1 ∙ orders.1, orders.2)

-- the orders of a cell that there is
pub orders_found : (d : Design) (cells : List (List Orders)) (c : CellId) (body : CellBody) (found : Option (Bor Orders)) → AreOrders d cells → cell_at d c ≡ Some body
    → option_copied found ≡ orders_in cells c → MatchOption found (cell_at d c ≡ None) (λ orders. AreOrdersOf d c orders.now)
orders_found d cells c body found are there is = kept found is (are c (subst (λ (o : Option CellBody). IsSome o) (sym there) refl))
  where
    kept : (o : Option (Bor Orders)) → option_copied o ≡ orders_in cells c → (orders : Orders) × (orders_in cells c ≡ Some orders) × AreOrdersOf d c orders
        → MatchOption o (cell_at d c ≡ None) (λ orders. AreOrdersOf d c orders.now)
    kept None e all = absurd (none-some all.0 (e ∙ all.1))
    kept (Some orders) e all = subst (AreOrdersOf d c) (sym (same_Some orders.now all.0 (e ∙ all.1))) all.2

-- ---- names that differ

none_differ : AreDistinct {X = List ℕ} []
none_differ = λ i j d before within. absurd (omega (arith, before, within))

pub insts_differ : (d : Design) (c : CellId) → IsValid d → AreDistinct (inst_names d c)
insts_differ d c valid = of_cell (cell_at d c) refl
  where
    of_cell : (o : Option CellBody) → cell_at d c ≡ o → AreDistinct (map (λ inst. inst.name.id) (option_map_or insts_of o []))
    of_cell None is = none_differ
    of_cell (Some body) is = (valid.cells c body is).names.insts

pub nets_differ : (d : Design) (c : CellId) → IsValid d → AreDistinct (net_names d c)
nets_differ d c valid = of_cell (cell_at d c) refl
  where
    of_cell : (o : Option CellBody) → cell_at d c ≡ o → AreDistinct (map (λ net. net.name.id) (option_map_or nets_of o []))
    of_cell None is = none_differ
    of_cell (Some body) is = (valid.cells c body is).names.nets

pub ports_differ : (d : Design) (c : CellId) → IsValid d → AreDistinct (port_names d c)
ports_differ d c valid = of_cell (cell_at d c) refl
  where
    of_cell : (o : Option CellBody) → cell_at d c ≡ o → AreDistinct (map (λ port. port.name.id) (option_map_or (λ (body : CellBody). body.ports) o []))
    of_cell None is = none_differ
    of_cell (Some body) is = (valid.cells c body is).names.ports
