-- What is read of a name and of properties.
use Rattle.std.specs.Prelude.{◌≡◌, ◌⊎◌, List, Some, map}
use Rattle.std.specs.List.{All}
use Rattle.edif_spelling_spec.specs.Tree.{Placed, bare}
use Rattle.netlist_schema.specs.Names.{HasDistinctKeys}
use Rattle.netlist_schema.specs.Typed.{IsTypedName, IsTypedProperty}
use Rattle.edif_spec.specs.Faults.{name_of, those_of}
use Rattle.edif_spec.specs.Means.{MeansName, MeansProperties}
use Rattle.edif_spec.specs.Stands.{NameFault, PropertiesFault}
use Rattle.edif_spec.specs.declared.keyword.Keyword.TheVariants as keywords
use Rattle.edif_spec.specs.declared.fault.MeaningFault.{MeaningFault}
use Rattle.edif_build.specs.declared.headings.Heading.{Heading}

-- The name that a form means, and the properties that are meant among others.
pub record ReadHeading (t : Placed) (ts : List Placed) (h : Heading) : Type 0 where
  pub name : MeansName (bare t) h.name.name × IsTypedName h.name.name × (name_of t ≡ Some (h.name.name.id, h.name.place))
  pub properties : MeansProperties (map bare ts) h.properties × All IsTypedProperty h.properties × HasDistinctKeys h.properties

-- what is wrong with the name, or with the properties
abbrev pub HeadingFault : Placed → List Placed → MeaningFault → Type 0
HeadingFault t ts f = NameFault t f ⊎ PropertiesFault (those_of keywords.Property ts) f
