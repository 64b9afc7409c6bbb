-- Room for a count of each cell.
use Rattle.std.proofs.Common.{◌≡◌, ◌<◌, ℕ, zero, suc, List, [], ◌∷◌, ◌++◌, length, arith, Some, None, Option, slice_get}
use Rattle.std.specs.Prelude.{IsSome, IfSome, option_and_then}
use Rattle.std.proofs.lemmas.Bool.{false≢true}
use Rattle.std.proofs.lemmas.Option.{slice_get_within}
use Rattle.netlist_schema.specs.Design.{Design, cell_at, cells_in}
use Rattle.netlist_schema.specs.Hierarchy.{IsCell}
use Rattle.netlist_schema.specs.Types.{CellId}
use Rattle.netlist_schema.proofs.Lists.{some_of}
use Rattle.netlist_order_spec.proofs.Places.{lib_of_cell}
use Rattle.flat_spec.proofs.PathLemmas.{slice_get-is}

module _ {R : Type 0} (items : R → List ℕ) where
  -- one row more
  pub rows_more : (xs : List R) (x : R) (counts : ℕ → ℕ) → ((k : ℕ) → IfSome (slice_get xs k) (λ row. length (items row) ≡ counts k))
      → length (items x) ≡ counts (length xs) → (k : ℕ) → IfSome (slice_get (xs ++ x ∷ []) k) (λ row. length (items row) ≡ counts k)
  rows_more [] x counts f h zero = h
  rows_more [] x counts f h (suc k) = tt
  rows_more (y ∷ xs) x counts f h zero = f 0
  rows_more (y ∷ xs) x counts f h (suc k) = rows_more xs x (λ n. counts (suc n)) (λ n. f (suc n)) h k

  row_room : (o : Option R) (count slot : ℕ) → IfSome o (λ row. length (items row) ≡ count) → IsSome o → slot < count
      → IsSome (option_and_then (λ row. slice_get (items row) slot) o)
  row_room None count slot h is l = absurd (false≢true is)
  row_room (Some r) count slot h is l = slice_get-is (items r) slot (omega (arith, l, h))

  -- where each library has a row as long as it has cells, each cell has room
  pub rows_room : (d : Design) (rows : List R) → length rows ≡ length d.libs
      → ((lib : ℕ) → IfSome (slice_get rows lib) (λ row. length (items row) ≡ length (cells_in d (record { 0 = lib }))))
      → (c : CellId) → IsCell d c → IsSome (option_and_then (λ row. slice_get (items row) c.slot) (slice_get rows c.lib.0))
  rows_room d rows long each c is =
      let body = some_of (cell_at d c) is in
      let lib = lib_of_cell d c body.0 body.1 in
      let low : c.lib.0 < length d.libs = slice_get_within d.libs c.lib.0 lib.0 lib.1 in
      let slot : c.slot < length (cells_in d c.lib) = slice_get_within (cells_in d c.lib) c.slot body.0 body.1 in
      row_room (slice_get rows c.lib.0) (length (cells_in d c.lib)) c.slot (each c.lib.0) (slice_get-is rows c.lib.0 (omega (arith, low, long))) slot
