-- Copies of cells, and the names that they get.
use Rattle.std.specs.Prelude.{◌+◌, ℕ, Bool, not, List, [], ◌∷◌, ◌++◌, codes, decimal, find, length, map, filter, nat_eq, option_map, unwrap_or, ◌==◌, None}
use Rattle.std.specs.Cmp.Lexicographic.{pointwise}
use Rattle.std.specs.List.{list_any, range_with_len}
use Rattle.std.specs.Option.{option_map_or}
use Rattle.netlist_schema.specs.Design.{Design, cell_at, cells_in}
use Rattle.netlist_schema.specs.Names.{cell_names}
use Rattle.netlist_schema.specs.Types.{CellId, LibId, Name}
use Rattle.edit_rules_spec.specs.Find.{is_same}
use Rattle.flat_spec.specs.Occurrences.{Occurrence}

-- ---- names

-- a text with the ending of copy n
abbrev pub numbered : List ℕ → ℕ → List ℕ
numbered text n = text ++ codes "_u" ++ decimal n

-- none of the names is this one, where the case of letters is ignored
abbrev pub is_free : List (List ℕ) → List ℕ → Bool
is_free names id = not (list_any (λ other. is_same other id) names)

-- the least number from 1 on whose ending makes a free name; there is one, since the numbers tried are more than the names
abbrev pub free_number : List (List ℕ) → List ℕ → ℕ
free_number names id = unwrap_or (find (λ n. is_free names (numbered id n)) (range_with_len 1 (length names + 1))) 0

-- the identifier gets the first ending that makes it free, and a shown text gets the same ending
abbrev pub copy_name : List (List ℕ) → Name → Name
copy_name names name =
    let n = free_number names name.id in
    record { id = numbered name.id n; shown = option_map (λ text. numbered text n) name.shown }

-- ---- copies

-- a copy: the path of the occurrence for which it is made, the cell that is copied, and the new cell with its name
pub record Copy : Type 0 where
  pub path : List ℕ
  pub of : CellId
  pub id : CellId
  pub name : Name

abbrev pub same_path : List ℕ → List ℕ → Bool
same_path p q = pointwise nat_eq p q

-- the copy for the occurrence at a path
abbrev pub is_copy_at : List ℕ → Copy → Bool
is_copy_at path copy = same_path copy.path path

-- the copies in a library
abbrev pub copies_in : LibId → List Copy → List Copy
copies_in lib copies = filter (λ copy. copy.id.lib.0 == lib.0) copies

-- the directory of a library once these copies are in it
abbrev pub names_with : Design → List Copy → LibId → List (List ℕ)
names_with d copies lib = cell_names (cells_in d lib) ++ map (λ copy. copy.name.id) (copies_in lib copies)

-- the name of a cell
abbrev pub name_at : Design → CellId → Name
name_at d id = option_map_or (λ body. body.name) (cell_at d id) (record { id = []; shown = None })

-- a copy of an occurrence's cell goes last in the cell's library, behind the copies made before
abbrev pub copy_after : Design → List Copy → Occurrence → Copy
copy_after d before o =
    let names = names_with d before o.cell.lib in
    record { path = o.path; of = o.cell; id = record { lib = o.cell.lib; slot = length names }; name = copy_name names (name_at d o.cell) }

-- a copy for each of these occurrences in order, behind those made before
abbrev pub copies_after : Design → List Copy → List Occurrence → List Copy
copies_after d before [] = []
copies_after d before (o ∷ os) =
    let copy = copy_after d before o in
    copy ∷ copies_after d (before ++ copy ∷ []) os
