-- What is read of a view and of a cell.
use Rattle.std.specs.Prelude.{◌≡◌, ◌⊎◌, ℕ, List, [], ◌∷◌, Option, None, Some, map}
use Rattle.edif_spelling_spec.specs.Tree.{Placed, bare}
use Rattle.netlist_schema.specs.Design.{ends_of}
use Rattle.netlist_schema.specs.Limits.{IsCellWithinLimits}
use Rattle.netlist_schema.specs.Names.{AreDistinct, HasDistinctNamesInCell}
use Rattle.netlist_schema.specs.Typed.{IsTypedCell}
use Rattle.edif_spec.specs.Design as design
use Rattle.edif_spec.specs.Faults.{Among, AtTwo, defined, followers, place_of, those_of}
use Rattle.edif_spec.specs.Means.{IsNetlist, MeansCell, MeansPort}
use Rattle.edif_spec.specs.Rows.{Each, IsFormOf, those}
use Rattle.edif_spec.specs.Stands.{ContentsFault, InterfaceFault}
use Rattle.edif_spec.specs.declared.keyword.Keyword.TheVariants as keywords
use Rattle.edif_spec.specs.declared.fault.ClashKind.TheVariants.{SecondView}
use Rattle.edif_spec.specs.declared.fault.Kind.TheVariants.{BadForm}
use Rattle.edif_spec.specs.declared.fault.MeaningFault.{MeaningFault}
use Rattle.edif_spec.specs.declared.fault.MeaningFault.TheVariants.{At, Clash}
use Rattle.edif_tree.specs.Handles.{here}
use Rattle.edif_tree.specs.declared.node.Node.{Node}
use Rattle.edif_contents.specs.Insides.{ReadContents}
use Rattle.edif_parts.specs.Interfaces.{ReadInterface}
use Rattle.edif_build.specs.Headings.{ReadHeading}
use Rattle.edif_build.specs.declared.cells.CellAt.{CellAt}
use Rattle.edif_build.specs.declared.cells.View.{View}
use Rattle.edif_build.specs.declared.cells.ViewBody.{ViewBody}

-- nothing is read of no form, and of one form what stands in it
abbrev pub ReadOnce : {A : Type 0} → (Placed → A → Type 0) → List Placed → Option A → Type 0
ReadOnce R [] None = Unit {0}
ReadOnce R (t ∷ []) (Some x) = R t x
ReadOnce R ts o = ⊥

-- the node of the one form, where there is one
abbrev pub OneNode : List Placed → Option Node → Type 0
OneNode ts None = ts ≡ []
OneNode ts (Some node) = ts ≡ here node ∷ []

-- among the views of a cell: a second one, or none at all
abbrev pub ViewsFault : List Placed → ℕ → MeaningFault → Type 0
ViewsFault views place f = AtTwo (λ a b. f ≡ Clash SecondView (place_of b) (place_of a)) views ⊎ ((views ≡ []) × (f ≡ At BadForm place))

-- The interface that a form means, and the contents that are meant among others.
pub record ReadViewBody (libs : List design.Lib) (own : Option ℕ) (t : Placed) (ts : List Placed) (b : ViewBody) : Type 0 where
  pub interface : ReadInterface t b.interface
  pub inside : ReadOnce (ReadContents libs own b.interface.ports) (those_of keywords.Contents ts) b.inside

-- what is wrong with the interface, or with the contents among others where the interface means these ports
abbrev pub ViewBodyFault : List design.Lib → Option ℕ → Placed → List Placed → MeaningFault → Type 0
ViewBodyFault libs own t ts f = InterfaceFault t f
    ⊎ ((ports : List design.Port) × Each MeansPort (those keywords.Port (map bare (followers keywords.Interface t))) ports × Among (ContentsFault libs own ports) (those_of keywords.Contents ts) f)

-- The name, the type, the interface, the contents and the properties that a view means.
pub record ReadView (libs : List design.Lib) (own : Option ℕ) (t : Placed) (v : View) : Type 0 where
  pub name_part : Placed
  pub type_part : Placed
  pub interface_part : Placed
  pub form : IsFormOf keywords.View (bare t) (bare name_part ∷ bare type_part ∷ bare interface_part ∷ []) (map bare (followers keywords.View t))
  pub heading : ReadHeading name_part (followers keywords.View t) v.heading
  pub netlist : IsNetlist (bare type_part)
  pub body : ReadViewBody libs own interface_part (followers keywords.View t) v.body

-- within the limits of a cell, with names that differ and each bit joined once
pub record IsSoundCell (c : design.CellBody) : Type 0 where
  pub typed : IsTypedCell c
  pub limits : IsCellWithinLimits c
  pub names : HasDistinctNamesInCell c
  pub joined_once : AreDistinct (ends_of c)

-- The cell that a form means, and where its name stands.
pub record ReadCell (libs : List design.Lib) (own : Option ℕ) (t : Placed) (c : CellAt) : Type 0 where
  pub mean : MeansCell libs own (bare t) c.cell
  pub sound : IsSoundCell c.cell
  pub place : defined t ≡ Some (c.cell.name.id, c.place)

-- a cell by its view, its name, its type and its properties
abbrev pub body_of : View → design.Name → design.CellKind → List design.Property → design.CellBody
body_of v name kind properties = record {
  name = name;
  kind = kind;
  properties = properties;
  view = v.heading.name.name;
  view_properties = v.heading.properties;
  interface_properties = v.body.interface.properties;
  ports = v.body.interface.ports;
  contents = v.body.inside;
}
