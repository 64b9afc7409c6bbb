-- Lists by library and place: what they have for a cell.
use Rattle.std.proofs.Common.{◌≡◌, ℕ, List, [], length, map, Option, Some, None, refl, ap, ◌∙◌, slice_get}
use Rattle.std.specs.Prelude.{option_and_then, option_map}
use Rattle.std.specs.List.{range_with_len}
use Rattle.std.specs.Option.{option_map_or}
use Rattle.std.proofs.lemmas.Option.{slice_get-map}
use Rattle.netlist_schema.specs.Design.{Design, cell_at}
use Rattle.netlist_schema.specs.Types.{CellId, Lib}
use Rattle.used_spec.specs.Uses.{count_in, id_at, ids_of, users, users_at, uses}
use Rattle.used_spec.specs.declared.used_at.UsedAt.{UsedAt}
use Rattle.used_spec.proofs.Numbered.{numbered}

-- lists of lists: what is made for each library by its number of cells
abbrev pub Rows : Type 0
Rows = ℕ → ℕ → List (List UsedAt)

abbrev pub rows_of : Rows → Design → List (List (List UsedAt))
rows_of g d = map (λ lib. g lib (count_in d lib)) (range_with_len 0 (length d.libs))

pub row_at : (g : Rows) (d : Design) (lib : ℕ) → slice_get (rows_of g d) lib ≡ option_map (λ _. g lib (count_in d lib)) (slice_get d.libs lib)
row_at g d lib = numbered (λ lib. g lib (count_in d lib)) d.libs (length d.libs) lib refl

pub entry_at : (g : Rows) (v : CellId → List UsedAt) (d : Design) (cell : CellId)
    → ((l : Lib) → slice_get (g cell.lib.0 (length l.cells)) cell.slot ≡ option_map (λ _. v cell) (slice_get l.cells cell.slot))
    → users_at (rows_of g d) cell ≡ option_map (λ _. v cell) (cell_at d cell)
entry_at g v d cell each = ap (option_and_then (λ cells. slice_get cells cell.slot)) (row_at g d cell.lib.0) ∙ go (slice_get d.libs cell.lib.0)
  where
    go : (o : Option Lib) → option_and_then (λ cells. slice_get cells cell.slot) (option_map (λ _. g cell.lib.0 (length (option_map_or (λ (l : Lib). l.cells) o []))) o)
        ≡ option_map (λ _. v cell) (slice_get (option_map_or (λ (l : Lib). l.cells) o []) cell.slot)
    go None = refl
    go (Some l) = each l

used_row : (d : Design) (lib slot : ℕ) (l : Lib) → slice_get (map (users d) (ids_of lib (length l.cells))) slot ≡ option_map (λ _. users d (id_at lib slot)) (slice_get l.cells slot)
used_row d lib slot l =
    slice_get-map (users d) (ids_of lib (length l.cells)) slot
    ∙ ap (option_map (users d)) (numbered (id_at lib) l.cells (length l.cells) slot refl)
    ∙ twice (slice_get l.cells slot)
  where
    twice : {A : Type 0} (o : Option A) → option_map (users d) (option_map (λ _. id_at lib slot) o) ≡ option_map (λ _. users d (id_at lib slot)) o
    twice None = refl
    twice (Some x) = refl

-- the index has the uses of each cell
pub used_entry : (d : Design) (cell : CellId) → users_at (uses d) cell ≡ option_map (λ _. users d cell) (cell_at d cell)
used_entry d cell = entry_at (λ lib count. map (users d) (ids_of lib count)) (users d) d cell (used_row d cell.lib.0 cell.slot)
