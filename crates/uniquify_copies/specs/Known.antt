-- What is known of the copies that were made so far.
use Rattle.std.specs.Prelude.{◌≡◌, ◌≤◌, ◌<◌, ◌^◌, ℕ, Bool, true, false, List, [], ◌∷◌, ◌++◌, Option, Some, None, length, map, unwrap_or}
use Rattle.std.specs.BTreeMap.{get}
use Rattle.std.specs.Char.{to_ascii_lowercase}
use Rattle.std.specs.Cmp.Lexicographic.{slice_cmp}
use Rattle.std.specs.List.{list_any}
use Rattle.std.specs.Ordering.{nat_cmp, ordering_then}
use Rattle.std.specs.declared.cmp.Ordering.{Ordering}
use Rattle.netlist_schema.specs.Design.{Design, cells_in}
use Rattle.netlist_schema.specs.Types.{CellId, LibId}
use Rattle.netlist_schema.specs.declared.limits.TheConstants.{MOST_CELLS}
use Rattle.edit_rules_spec.specs.Find.{is_same}
use Rattle.uniquify_spec.specs.Copies.{Copy, copies_in, copy_name, is_free, names_with, name_at, numbered}
use Rattle.uniquify_copies.specs.declared.namer.Namer.{Namer}
use Rattle.uniquify_copies.specs.declared.namer.Twin.{Twin}
use Rattle.uniquify_copies.specs.declared.numbers.Stem.{Stem}

-- the order of stems, by library and then by letters
abbrev pub stem_cmp : Stem → Stem → Ordering
stem_cmp a b = ordering_then (nat_cmp a.lib b.lib) (slice_cmp nat_cmp a.letters.items b.letters.items)

-- the stem of an identifier in a library: its letters in lower case
pub record IsStemOf (stem : Stem) (lib : LibId) (id : List ℕ) : Type 0 where
  pub lib_is : stem.lib ≡ lib.0
  pub letters_are : stem.letters.items ≡ map to_ascii_lowercase id

-- the number from which on none of a stem was given to a copy
abbrev pub next_of : Namer → Stem → ℕ
next_of namer stem = unwrap_or (get stem_cmp namer.numbers stem) 1

-- the number of names in a library, where its directory has so many
abbrev pub count_of : Namer → LibId → ℕ → ℕ
count_of namer lib count = unwrap_or (get nat_cmp namer.slots lib.0) count

-- the name of a copy of an identifier with this number is the same as that of a copy in the library
abbrev pub is_copied : List Copy → LibId → List ℕ → Bool
is_copied made lib id = list_any (λ other. is_same other id) (map (λ copy. copy.name.id) (copies_in lib made))

-- what is kept fits the copies made so far
pub record AreKnown (d : Design) (made : List Copy) (namer : Namer) : Type 0 where
  pub slots : (lib : LibId) → count_of namer lib (length (cells_in d lib)) ≡ length (names_with d made lib)
  -- the numbers of a stem before the next one are taken
  pub taken : (stem : Stem) (lib : LibId) (id : List ℕ) (n : ℕ) → IsStemOf stem lib id → 1 ≤ n → n < next_of namer stem
      → is_free (names_with d made lib) (numbered id n) ≡ false
  -- and no copy has one from that on
  pub beyond : (stem : Stem) (lib : LibId) (id : List ℕ) (n : ℕ) → IsStemOf stem lib id → next_of namer stem ≤ n → n < 2 ^ 64
      → is_copied made lib (numbered id n) ≡ false
  pub from_one : (stem : Stem) → 1 ≤ next_of namer stem

-- a copy of a cell with a place and a name, for the occurrence at a path
abbrev pub copy_at : List ℕ → CellId → Twin → Copy
copy_at path of twin = record { path = path; of = of; id = twin.id; name = twin.name }

-- the place and the name of the next copy of a cell, where its library has room
pub record IsNextTwin (d : Design) (made : List Copy) (of : CellId) (new : Namer) (twin : Twin) : Type 0 where
  pub id : twin.id ≡ record { lib = of.lib; slot = length (names_with d made of.lib) }
  pub name : twin.name ≡ copy_name (names_with d made of.lib) (name_at d of)
  pub room : twin.id.slot < MOST_CELLS
  pub known : (path : List ℕ) → AreKnown d (made ++ copy_at path of twin ∷ []) new

-- the next copy, or none where the library has no room
abbrev pub IsNext : Design → List Copy → CellId → Namer → Option Twin → Type 0
IsNext d made of new (Some twin) = IsNextTwin d made of new twin
IsNext d made of new None = MOST_CELLS ≤ length (names_with d made of.lib)

-- the number is the first from another on with which an identifier is free in a directory
pub record IsFirstFree (names : List (List ℕ)) (id : List ℕ) (from n : ℕ) : Type 0 where
  pub not_before : from ≤ n
  pub free : is_free names (numbered id n) ≡ true
  pub least : (m : ℕ) → from ≤ m → m < n → is_free names (numbered id m) ≡ false
