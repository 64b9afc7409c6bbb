-- A design with layers over its libraries: other bodies of cells, further cells, and other notes.
use Rattle.std.specs.Prelude.{◌≡◌, ℕ, suc, List, [], ◌∷◌, ◌++◌, Option, Some, IsSomeAnd, slice_get, unwrap_or}
use Rattle.netlist_schema.specs.Design.{Design}
use Rattle.netlist_schema.specs.Types.{CellBody, Lib, Note}

-- a layer over a library: another body for the cell at a place, where there is one, and the cells that go after the last
pub record Over : Type 0 where
  pub changed : ℕ → Option CellBody
  pub added : List CellBody

-- cells, from a place on, each with its other body where there is one
abbrev pub cells_changed : (ℕ → Option CellBody) → ℕ → List CellBody → List CellBody
cells_changed changed slot [] = []
cells_changed changed slot (body ∷ cells) = unwrap_or (changed slot) body ∷ cells_changed changed (suc slot) cells

-- the cells of a library with the layer over it
abbrev pub cells_laid : Over → List CellBody → List CellBody
cells_laid over cells = cells_changed over.changed 0 cells ++ over.added

-- the libraries, each with its layer
abbrev pub libs_laid : List Over → List Lib → List Lib
libs_laid [] libs = libs
libs_laid (over ∷ overs) [] = []
libs_laid (over ∷ overs) (lib ∷ libs) = record lib { cells = cells_laid over lib.cells } ∷ libs_laid overs libs

-- the design with its layers, and with these notes where they are given
abbrev pub laid : Design → List Over → Option (List Note) → Design
laid d overs notes = record d { libs = libs_laid overs d.libs; notes = unwrap_or notes d.notes }

-- the layer changes only cells that are there, and keeps their identifiers
abbrev pub Fits : List CellBody → Over → Type 0
Fits cells over = (slot : ℕ) (body : CellBody) → over.changed slot ≡ Some body → IsSomeAnd (slice_get cells slot) (λ old. body.name.id ≡ old.name.id)
