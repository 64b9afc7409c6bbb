-- What is read of libraries and of their cells, as they are gone over.
use Rattle.std.specs.Prelude.{◌≡◌, ◌≤◌, ◌⊎◌, ℕ, List, [], ◌∷◌, ◌++◌, Some, length, map, slice_get}
use Rattle.std.specs.List.{AllByRecursion}
use Rattle.edif_spelling_spec.specs.Tree.{Placed, bare}
use Rattle.netlist_schema.specs.Names.{AreDistinct, cell_names, lib_names}
use Rattle.netlist_schema.specs.Typed.{IsTypedName}
use Rattle.netlist_schema.specs.declared.limits.TheConstants.{MOST_CELLS, MOST_LIBS}
use Rattle.edif_spec.specs.Canonical.{library_keyword}
use Rattle.edif_spec.specs.Design as design
use Rattle.edif_spec.specs.Faults.{Beyond, Repeats, arguments, defined, followers}
use Rattle.edif_spec.specs.Means.{IsLevel, MeansCell, MeansLibrary, MeansName}
use Rattle.edif_spec.specs.Rows.{EachAfter, IsFormOf, has_keyword}
use Rattle.edif_spec.specs.Stands.{AmongAfter, CellFault, LibraryFault}
use Rattle.edif_spec.specs.declared.keyword.Keyword.TheVariants as keywords
use Rattle.edif_spec.specs.declared.fault.MeaningFault.{MeaningFault}
use Rattle.edif_tree.specs.Handles.{all}
use Rattle.edif_build.specs.Cells.{IsSoundCell}
use Rattle.edif_contents.specs.Known.{KnownLibs}
use Rattle.edif_parts.specs.Names.{Define, ids}
use Rattle.edif_build.specs.declared.libraries.Head.{Head}

-- The last library has the cells that these forms mean, in order; their names differ, and none is beyond the limit.
pub record CellsAre (before : List design.Lib) (head : design.LibHead) (names : List (List ℕ × ℕ)) (ts : List Placed) (known : KnownLibs) : Type 0 where
  pub cells : List design.CellBody
  pub libs : known.libs ≡ before ++ record { head = head; cells = cells } ∷ []
  pub lib_names : known.lib_names ≡ names
  pub mean : EachAfter (λ cells. MeansCell (before ++ record { head = head; cells = cells } ∷ []) (Some (length before))) [] (map bare ts) cells
  pub sound : AllByRecursion IsSoundCell cells
  pub define : Define ts known.cell_names
  pub named : ids known.cell_names ≡ cell_names cells
  pub distinct : AreDistinct (cell_names cells)
  pub count : length cells ≤ MOST_CELLS

-- in the cells of a library: in one of them, a name that repeats, one beyond the limit
abbrev pub CellsFail : List design.Lib → design.LibHead → List Placed → MeaningFault → Type 0
CellsFail before head ts f = AmongAfter (λ cells. MeansCell (before ++ record { head = head; cells = cells } ∷ []) (Some (length before))) (λ cells. CellFault (before ++ record { head = head; cells = cells } ∷ []) (Some (length before))) [] ts f
    ⊎ (Repeats ts f ⊎ Beyond MOST_CELLS ts f)

-- cells that are typed and sound, with names that differ, within the limit
pub record IsSoundLib (l : design.Lib) : Type 0 where
  pub name : IsTypedName l.head.name
  pub cells : AllByRecursion IsSoundCell l.cells
  pub names : AreDistinct (cell_names l.cells)
  pub count : length l.cells ≤ MOST_CELLS

-- The libraries are those that these forms mean, in order; their names differ, and none is beyond the limit.
pub record LibsAre (ts : List Placed) (known : KnownLibs) : Type 0 where
  pub mean : EachAfter MeansLibrary [] (map bare ts) known.libs
  pub sound : AllByRecursion IsSoundLib known.libs
  pub define : Define ts known.lib_names
  pub names : ids known.lib_names ≡ lib_names known.libs
  pub distinct : AreDistinct (lib_names known.libs)
  pub count : length known.libs ≤ MOST_LIBS

-- in libraries: in one of them, a name that repeats, one beyond the limit
abbrev pub LibsFail : List Placed → MeaningFault → Type 0
LibsFail ts f = AmongAfter MeansLibrary LibraryFault [] ts f ⊎ (Repeats ts f ⊎ Beyond MOST_LIBS ts f)

-- a fault that stands whatever follows this form, which stands behind those
abbrev pub FailsAt : (List Placed → MeaningFault → Type 0) → List Placed → Placed → MeaningFault → Type 0
FailsAt F ts t f = (rest : List Placed) → F (ts ++ t ∷ rest) f

-- a fault that stands whatever follows these forms
abbrev pub FailsIn : (List Placed → MeaningFault → Type 0) → List Placed → MeaningFault → Type 0
FailsIn F ts f = (rest : List Placed) → F (ts ++ rest) f

-- The head of a library: its name, its level, and the nodes of what follows.
pub record ReadHead (t : Placed) (h : Head) : Type 0 where
  pub name_part : Placed
  pub level_part : Placed
  pub technology_part : Placed
  pub at_name : slice_get (arguments t) 0 ≡ Some name_part
  pub form : IsFormOf (library_keyword h.head.external) (bare t) (bare name_part ∷ bare level_part ∷ bare technology_part ∷ []) (map bare (followers keywords.Library t))
  pub name : MeansName (bare name_part) h.head.name
  pub typed : IsTypedName h.head.name
  pub level : IsLevel keywords.EdifLevel (bare level_part)
  pub external : h.head.external ≡ has_keyword keywords.External (bare t)
  pub place : defined t ≡ Some (h.head.name.id, h.place)
  pub inner : all h.inner ≡ followers keywords.Library t
