-- The design with nothing but its top and the cells below it.
use Rattle.std.specs.Prelude.{ℕ, Bool, List, Some, filter, length, map}
use Rattle.std.specs.List.{enumerate_from, list_any, range_with_len}
use Rattle.std.specs.Option.{option_map_or}
use Rattle.netlist_schema.specs.Design.{Design}
use Rattle.netlist_schema.specs.Types.{CellId, Lib, TopHead}
use Rattle.edif_spec.specs.Arranged.{new_cells, new_top}
use Rattle.edit_rules_spec.specs.Paths.{same_cell}
use Rattle.flat_spec.specs.Occurrences.{occurrences}
use Rattle.used_spec.specs.Uses.{id_at, count_in}

-- the cell is the top or below it: an occurrence of the top's tree is of it
abbrev pub is_kept : Design → CellId → CellId → Bool
is_kept d top cell = list_any (λ o. same_cell o.cell cell) (occurrences d top)

-- the places in a library of the cells that are kept
abbrev pub kept_slots : Design → CellId → ℕ → List ℕ
kept_slots d top lib = filter (λ slot. is_kept d top (id_at lib slot)) (range_with_len 0 (count_in d lib))

-- of each library; a cell that is kept gets the id of its place among them
abbrev pub kept_places : Design → CellId → List (List ℕ)
kept_places d top = map (kept_slots d top) (range_with_len 0 (length d.libs))

-- a library with those of its cells that stand at these places, and their instances by the new ids
abbrev pub lib_with : List (List ℕ) → Lib → List ℕ → Lib
lib_with places lib slots = record { head = lib.head; cells = new_cells places lib.cells slots }

-- the libraries, each with the cells that are kept
abbrev pub kept_libs : Design → CellId → List Lib
kept_libs d top = map (λ p. lib_with (kept_places d top) p.1 (kept_slots d top p.0)) (enumerate_from 0 d.libs)

-- the design with this top
abbrev pub kept_below : Design → TopHead → Design
kept_below d top = record { title = d.title; libs = kept_libs d top.cell; top = Some (new_top (kept_places d top.cell) top); notes = d.notes }

-- The design with nothing but the top and the cells below it. Libraries, properties, the top and the notes stay. A design without a
-- top is left as it is.
abbrev pub kept : Design → Design
kept d = option_map_or (kept_below d) d.top d
