-- A version with changes over it: what its fields stand for.
use Rattle.std.specs.Prelude.{◌≡◌, ◌≤◌, ℕ, List, [], ◌∷◌, Option, Some, length, map, option_map, slice_get, slice_set}
use Rattle.std.specs.List.{All}
use Rattle.std.specs.Arc.{arc_value}
use Rattle.netlist_schema.specs.Design.{Design, cells_in}
use Rattle.netlist_schema.specs.Names.{AreDistinct, cell_names}
use Rattle.netlist_schema.specs.Types.{Lib, LibId, Note}
use Rattle.netlist_schema.specs.declared.limits.TheConstants.{MOST_CELLS}
use Rattle.db_draft.specs.Laid.{Fits, cells_laid, laid}
use Rattle.db_draft.specs.Layers.{over_of, IsNamed, IsSameLayer}
use Rattle.db_draft.specs.declared.layer.Layer.{Layer}
use Rattle.db_draft.specs.declared.draft.Draft.TheInside.{Inside as DraftInside}

-- the design of the version, and the design with the changes
pub record Drafted : Type 0 where
  pub base : Design
  pub design : Design

abbrev pub notes_of : DraftInside → Option (List Note)
notes_of draft = option_map arc_value draft.notes

abbrev pub design_of : DraftInside → Design
design_of draft = laid draft.base.design (map over_of draft.layers.items) (notes_of draft)

abbrev pub drafted_of : DraftInside → Drafted
drafted_of draft = record { base = draft.base.design; design = design_of draft }

-- the layer goes over the library
pub record Suits (lib : Lib) (layer : Layer) : Type 0 where
  pub named : IsNamed layer
  pub fits : Fits lib.cells (over_of layer)

-- each library has its layer
abbrev pub AllSuit : List Lib → List Layer → Type 0
AllSuit [] [] = Unit {0}
AllSuit [] (layer ∷ layers) = ⊥
AllSuit (lib ∷ libs) [] = ⊥
AllSuit (lib ∷ libs) (layer ∷ layers) = Suits lib layer × AllSuit libs layers

abbrev pub IsDraft : DraftInside → Type 0
IsDraft draft = AllSuit draft.base.design.libs draft.layers.items

-- one of the layers gave way to another one
pub record HasNewLayer (old new : List Layer) (place : ℕ) (Changed : Layer → Layer → Type 0) : Type 0 where
  pub before : Layer
  pub after : Layer
  pub found : slice_get old place ≡ Some before
  pub set : new ≡ slice_set old place after
  pub changed : Changed before after

-- a library of the design is this one with the layer over it
pub record IsAt (d : Design) (lib : LibId) (shelf : Lib) (layer : Layer) : Type 0 where
  pub cells : cells_in d lib ≡ cells_laid (over_of layer) shelf.cells
  pub suits : Suits shelf layer

-- the layers are the same, one by one
abbrev pub AreSameLayers : List Layer → List Layer → Type 0
AreSameLayers [] [] = Unit {0}
AreSameLayers [] (new ∷ news) = ⊥
AreSameLayers (old ∷ olds) [] = ⊥
AreSameLayers (old ∷ olds) (new ∷ news) = IsSameLayer old new × AreSameLayers olds news

-- few cells in each library, whose names differ
pub record AreSound (libs : List Lib) : Type 0 where
  pub few : All (λ lib. length lib.cells ≤ MOST_CELLS) libs
  pub distinct : All (λ lib. AreDistinct (cell_names lib.cells)) libs
