-- What has all instances added to an empty index is the index.
use Rattle.std.proofs.Common.{◌≡◌, ◌≤◌, ℕ, arith, List, [], ◌++◌, length, map, Option, Some, None, refl, sym, ap, ◌∙◌, slice_get}
use Rattle.std.specs.Prelude.{option_and_then, option_map}
use Rattle.std.proofs.lemmas.List.FromFn.{length-map-range_with_len}
use Rattle.std.proofs.lemmas.Option.{slice_get_past, slice_get_within}
use Rattle.netlist_schema.specs.Design.{Design, cell_at}
use Rattle.netlist_schema.specs.Types.{CellId, Lib}
use Rattle.netlist_schema.proofs.Lists.{get_there}
use Rattle.used_spec.specs.Uses.{all_placed, count_in, id_at, ids_of, users, users_at, uses}
use Rattle.used_spec.specs.declared.used_at.UsedAt.{UsedAt}
use Rattle.used_spec.proofs.Entries.{entry_at, row_at, used_entry}
use Rattle.used_spec.proofs.Numbered.{numbered, past_end, same_list}
use Rattle.where_used.specs.Index.{HasAdded, blank_index, blank_row}

pub blank_entry : (d : Design) (cell : CellId) → users_at (blank_index d) cell ≡ option_map (λ _. []) (cell_at d cell)
blank_entry d cell = entry_at (λ lib count. blank_row count) (λ _. []) d cell (λ l. numbered (λ slot. []) l.cells (length l.cells) cell.slot refl)

-- lists by library and place that have the same for each cell as the index
pub same_index : (d : Design) (rows : List (List (List UsedAt))) → length rows ≡ length d.libs → ((cell : CellId) → users_at rows cell ≡ users_at (uses d) cell) → rows ≡ uses d
same_index d rows long entry = same_list rows (uses d) (λ lib. at_lib lib (slice_get d.libs lib) refl)
  where
    at_lib : (lib : ℕ) (o : Option Lib) → slice_get d.libs lib ≡ o → slice_get rows lib ≡ slice_get (uses d) lib
    at_lib lib None e =
        let past : length d.libs ≤ lib = past_end d.libs lib e in
        slice_get_past rows lib (omega (arith, past, long))
        ∙ sym (row_at (λ lib count. map (users d) (ids_of lib count)) d lib ∙ ap (option_map (λ _. map (users d) (ids_of lib (count_in d lib)))) e)
    at_lib lib (Some l) e =
        let there = get_there rows lib (let less = slice_get_within d.libs lib l e in omega (arith, less, long)) in
        let row = map (users d) (ids_of lib (count_in d lib)) in
        let mine : slice_get (uses d) lib ≡ Some row = row_at (λ lib count. map (users d) (ids_of lib count)) d lib ∙ ap (option_map (λ _. row)) e in
        there.1 ∙ ap Some (same_list there.0 row (λ slot.
        sym (ap (option_and_then (λ cells. slice_get cells slot)) there.1)
        ∙ entry (id_at lib slot)
        ∙ ap (option_and_then (λ cells. slice_get cells slot)) mine))
        ∙ sym mine

-- what has all instances added to an empty index is the index
pub index_is : (d : Design) (rows : List (List (List UsedAt))) → HasAdded (blank_index d) rows (all_placed d) → rows ≡ uses d
index_is d rows added = same_index d rows (added.libs ∙ length-map-range_with_len (λ lib. blank_row (count_in d lib)) 0 (length d.libs)) (λ cell.
    added.each cell
    ∙ ap (option_map (λ us. us ++ users d cell)) (blank_entry d cell)
    ∙ more cell (cell_at d cell)
    ∙ sym (used_entry d cell))
  where
    more : {A : Type 0} (cell : CellId) (o : Option A) → option_map (λ us. us ++ users d cell) (option_map (λ _. []) o) ≡ option_map (λ _. users d cell) o
    more cell None = refl
    more cell (Some x) = refl
