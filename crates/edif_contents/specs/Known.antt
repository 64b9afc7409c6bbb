-- What a file has defined so far.
use Rattle.std.specs.Prelude.{◌≡◌, ℕ, List, [], ◌∷◌, ◌++◌, Option, None, Some}
use Rattle.std.specs.List.{Contains}
use Rattle.edif_spec.specs.Design as design
use Rattle.edif_parts.specs.Names.{ids}

-- The libraries, their names with the places where they are defined, and the same of the cells of the last library.
pub record KnownLibs : Type 0 where
  pub libs : List design.Lib
  pub lib_names : List (List ℕ × ℕ)
  pub cell_names : List (List ℕ × ℕ)

-- A library, and the names of its cells with the places where they are defined.
pub record NamedLib : Type 0 where
  pub lib : design.Lib
  pub names : List (List ℕ × ℕ)

-- adding a cell to a library where none has its name; else it tells the place of that one, and changes nothing
abbrev pub AddsTo : NamedLib → design.CellBody → ℕ → NamedLib → Option ℕ → Type 0
AddsTo old body place new None = (¬ Contains (ids old.names) body.name.id)
    × (new ≡ record { lib = record { head = old.lib.head; cells = old.lib.cells ++ body ∷ [] }; names = old.names ++ (body.name.id, place) ∷ [] })
AddsTo old body place new (Some earlier) = Contains old.names (body.name.id, earlier) × (new ≡ old)

-- the names of the cells of the last library, none where there is no library
abbrev pub last_names : List NamedLib → List (List ℕ × ℕ)
last_names [] = []
last_names (l ∷ []) = l.names
last_names (l ∷ m ∷ ls) = last_names (m ∷ ls)

-- the libraries, the last one with a further cell
abbrev pub with_cell : List design.Lib → design.CellBody → List design.Lib
with_cell [] body = []
with_cell (l ∷ []) body = record { head = l.head; cells = l.cells ++ body ∷ [] } ∷ []
with_cell (l ∷ m ∷ ls) body = l ∷ with_cell (m ∷ ls) body

-- opening a library adds it without cells where none has its name; else it tells the place of that one, and changes nothing
abbrev pub OpensLib : KnownLibs → design.LibHead → ℕ → KnownLibs → Option ℕ → Type 0
OpensLib old head place new None = (¬ Contains (ids old.lib_names) head.name.id)
    × (new ≡ record { libs = old.libs ++ record { head = head; cells = [] } ∷ []; lib_names = old.lib_names ++ (head.name.id, place) ∷ []; cell_names = [] })
OpensLib old head place new (Some earlier) = Contains old.lib_names (head.name.id, earlier) × (new ≡ old)

-- adding a cell to the last library where none there has its name; else it tells the place of that one, and changes nothing
abbrev pub AddsCell : KnownLibs → design.CellBody → ℕ → KnownLibs → Option ℕ → Type 0
AddsCell old body place new None = (¬ Contains (ids old.cell_names) body.name.id)
    × (new ≡ record { libs = with_cell old.libs body; lib_names = old.lib_names; cell_names = old.cell_names ++ (body.name.id, place) ∷ [] })
AddsCell old body place new (Some earlier) = Contains old.cell_names (body.name.id, earlier) × (new ≡ old)
