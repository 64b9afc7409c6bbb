-- Places of the cells that are kept, by a test.
use Rattle.std.specs.Prelude.{◌<◌, ◌≤◌, ℕ, Bool, List, [], ◌∷◌, filter, length, map, slice_get, unwrap_or}
use Rattle.std.specs.List.{AllByRecursion, enumerate_from, range_with_len}
use Rattle.netlist_schema.specs.Design.{Design}
use Rattle.netlist_schema.specs.Types.{CellId, Inst, Lib}
use Rattle.netlist_schema.specs.declared.limits.TheConstants.{MOST_CELLS}
use Rattle.edif_spec.specs.Arranged.{new_inst}
use Rattle.used_spec.specs.Kept.{lib_with}
use Rattle.used_spec.specs.Uses.{count_in, id_at}

-- each number is less than those behind it
abbrev pub IsRising : List ℕ → Type 0
IsRising [] = Unit {0}
IsRising (x ∷ xs) = AllByRecursion (λ y. x < y) xs × IsRising xs

-- the places of a library
pub record IsRow (slots : List ℕ) : Type 0 where
  pub rising : IsRising slots
  pub few : length slots ≤ MOST_CELLS

-- the places of the cells that pass a test, in a library of so many cells, and in each library of a design
abbrev pub slots_by : (CellId → Bool) → ℕ → ℕ → List ℕ
slots_by test lib count = filter (λ slot. test (id_at lib slot)) (range_with_len 0 count)

abbrev pub places_by : Design → (CellId → Bool) → List (List ℕ)
places_by d test = map (λ lib. slots_by test lib (count_in d lib)) (range_with_len 0 (length d.libs))

-- the places in a library, none where there is no such library
abbrev pub row_at : List (List ℕ) → ℕ → List ℕ
row_at places lib = unwrap_or (slice_get places lib) []

-- instances by new ids, and libraries with the cells at these places
abbrev pub insts_by : List (List ℕ) → List Inst → List Inst
insts_by places insts = map (new_inst places) insts

abbrev pub libs_by : Design → List (List ℕ) → List Lib
libs_by d places = map (λ p. lib_with places p.1 (row_at places p.0)) (enumerate_from 0 d.libs)
