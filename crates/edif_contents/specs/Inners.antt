-- What is read of instances.
use Rattle.std.specs.Prelude.{◌≡◌, ◌<◌, ◌≤◌, ◌⊎◌, ◌++◌, ℕ, List, [], ◌∷◌, Option, IfSome, None, Some, map, length}
use Rattle.std.specs.List.{All}
use Rattle.edif_spelling_spec.specs.Tree.{Placed, bare}
use Rattle.netlist_schema.specs.Names.{AreDistinct, HasDistinctKeys}
use Rattle.netlist_schema.specs.Typed.{IsBytes, IsTypedInst, IsTypedProperty}
use Rattle.netlist_schema.specs.declared.limits.TheConstants.{MOST_INSTS}
use Rattle.edif_spec.specs.Design as design
use Rattle.edif_spec.specs.Faults.{Among, Beyond, Repeats, RowFault, defined, place_of, those_of}
use Rattle.edif_spec.specs.Means.{MeansInst, MeansProperties, MeansText}
use Rattle.edif_spec.specs.Rows.{Each, Perhaps, those}
use Rattle.edif_spec.specs.Stands.{InstFault, PropertiesFault}
use Rattle.edif_spec.specs.declared.fault.MeaningFault.{MeaningFault}
use Rattle.edif_spec.specs.declared.fault.MeaningFault.TheVariants.{OverLimit}
use Rattle.edif_spec.specs.declared.keyword.Keyword.TheVariants as keywords
use Rattle.edif_parts.specs.Adding.{DefinesAgain}
use Rattle.edif_parts.specs.Names.{DefinesName, ids}
use Rattle.edif_contents.specs.declared.insts.InstAt.{InstAt}
use Rattle.edif_contents.specs.declared.insts.InstDetails.{InstDetails}
use Rattle.edif_contents.specs.declared.insts.Insts.{Insts}

-- The designator and the properties that these followers of an instance mean.
pub record ReadDetails (ts : List Placed) (n : InstDetails) : Type 0 where
  pub designator : Perhaps (MeansText keywords.Designator) (those keywords.Designator (map bare ts)) n.designator × IfSome n.designator IsBytes
  pub properties : MeansProperties (map bare ts) n.properties × All IsTypedProperty n.properties × HasDistinctKeys n.properties

-- what is wrong with them
abbrev pub DetailsFault : List Placed → MeaningFault → Type 0
DetailsFault ts f = Among (RowFault keywords.Designator) (those_of keywords.Designator ts) f ⊎ PropertiesFault (those_of keywords.Property ts) f

-- The instance that a form means, and the place of its name.
pub record ReadInst (libs : List design.Lib) (own : Option ℕ) (t : Placed) (i : InstAt) : Type 0 where
  pub mean : MeansInst libs own (bare t) i.inst
  pub typed : IsTypedInst i.inst
  pub keys : HasDistinctKeys i.inst.properties
  pub named : defined t ≡ Some (i.inst.name.id, i.place)

-- an instance is fit for a design
abbrev pub IsFine : design.Inst → Type 0
IsFine i = IsTypedInst i × HasDistinctKeys i.properties

-- The instances that the forms of instances among these mean, within the limit, with their names, which differ.
pub record ReadInsts (libs : List design.Lib) (own : Option ℕ) (ts : List Placed) (i : Insts) : Type 0 where
  pub mean : Each (MeansInst libs own) (those keywords.Instance (map bare ts)) i.list.items
  pub fine : All IsFine i.list.items
  pub distinct : AreDistinct (design.inst_ids i.list.items)
  pub count : length i.list.items ≤ MOST_INSTS
  pub names : ids i.names ≡ design.inst_ids i.list.items

-- what is wrong with instances: in one of them, a name that repeats, more instances than allowed
abbrev pub InstsFault : List design.Lib → Option ℕ → List Placed → MeaningFault → Type 0
InstsFault libs own ts f = Among (InstFault libs own) ts f ⊎ (Repeats ts f ⊎ Beyond MOST_INSTS ts f)

-- An instance is added to those that are there, and its name, which is not there yet.
pub record InstAdded (i : InstAt) (old_names : List (List ℕ × ℕ)) (old : List design.Inst) (new_names : List (List ℕ × ℕ)) (new : List design.Inst) : Type 0 where
  pub insts : new ≡ old ++ i.inst ∷ []
  pub name : DefinesName old_names i.inst.name.id i.place new_names None

-- The instance that a form means is added to those that are there, behind which there is room.
pub record InstTaken (libs : List design.Lib) (own : Option ℕ) (t : Placed) (old_names : List (List ℕ × ℕ)) (old : List design.Inst) (new_names : List (List ℕ × ℕ)) (new : List design.Inst) : Type 0 where
  pub inst : InstAt
  pub read : ReadInst libs own t inst
  pub added : InstAdded inst old_names old new_names new
  pub room : length old < MOST_INSTS

-- what is wrong with a further instance: in itself, a name that is there already, no room behind those that are there
abbrev pub InstTakenFault : List design.Lib → Option ℕ → Placed → List (List ℕ × ℕ) → List design.Inst → MeaningFault → Type 0
InstTakenFault libs own t names old f = InstFault libs own t f ⊎ (DefinesAgain names t f ⊎ ((MOST_INSTS ≤ length old) × (f ≡ OverLimit MOST_INSTS (place_of t))))
