-- What is read of notes and of a design's form.
use Rattle.std.specs.Prelude.{◌≡◌, ◌<◌, ◌≤◌, ◌⊎◌, ℕ, List, [], ◌∷◌, ◌++◌, Bool, Some, true, false, codes, drop, length, map, slice_get}
use Rattle.std.specs.List.{All, AllByRecursion, Contains}
use Rattle.edif_spelling_spec.specs.Tree.{Bare, Placed, Word', bare}
use Rattle.netlist_schema.specs.Ident.{IsIdentifier}
use Rattle.netlist_schema.specs.Names.{AreDistinct, HasDistinctKeys, note_key}
use Rattle.netlist_schema.specs.declared.limits.TheConstants.{MOST_NOTES}
use Rattle.netlist_schema.specs.Typed.{IsTypedName, IsTypedNote, IsTypedProperty}
use Rattle.edif_spec.specs.Design as design
use Rattle.edif_spec.specs.Faults.{AtTwo, Among, Beyond, FixedFault, FollowerFault, arguments, defined, place_of}
use Rattle.edif_spec.specs.Keyword.{same}
use Rattle.edif_spec.specs.Means.{MeansDesign, MeansNote, MeansPath}
use Rattle.edif_spec.specs.Rows.{Each, has_keyword}
use Rattle.edif_spec.specs.Stands.{NoteFault, SameNote, StepsTo, bad_form, note_parts}
use Rattle.edif_spec.specs.declared.keyword.Keyword.TheVariants as keywords
use Rattle.edif_spec.specs.declared.fault.ClashKind.TheVariants.{Duplicate}
use Rattle.edif_spec.specs.declared.fault.MeaningFault.{MeaningFault}
use Rattle.edif_spec.specs.declared.fault.MeaningFault.TheVariants.{Clash}
use Rattle.edif_tree.specs.Handles.{here}
use Rattle.edif_build.specs.declared.notes.NoteAt.{NoteAt}
use Rattle.edif_build.specs.declared.notes.NoteParts.{NoteParts}
use Rattle.edif_build.specs.declared.top.Top.{Top}

-- a typed note with at least one step
pub record IsSoundNote (n : design.Note) : Type 0 where
  pub typed : IsTypedNote n
  pub some_step : 0 < length n.path

-- the shape of a note: its mark, its path and its property, and the nodes of the last two
pub record HasNoteParts (t : Placed) (p : NoteParts) : Type 0 where
  pub mark : Placed
  pub are : arguments t ≡ mark ∷ here p.path ∷ here p.property ∷ []
  pub is_path : has_keyword keywords.Path (bare (here p.path)) ≡ true
  pub is_property : has_keyword keywords.Property (bare (here p.property)) ≡ true

-- what is wrong with the shape of a note
abbrev pub ShapeFault : Placed → MeaningFault → Type 0
ShapeFault t f = FixedFault bad_form (place_of t) note_parts (arguments t) f ⊎ FollowerFault bad_form [] (drop 3 (arguments t)) f

-- the identifiers that a path means, at least one
pub record ReadPath (libs : List design.Lib) (top : design.CellId) (t : Placed) (ns : List (List ℕ)) : Type 0 where
  pub mean : MeansPath libs top (map bare (arguments t)) ns
  pub typed : All IsIdentifier ns
  pub some_step : 0 < length ns

-- a further step, by the identifier of its instance, and the cell that this instance is of
pub record StepAdded (libs : List design.Lib) (id : design.CellId) (t : Placed) (old new : List (List ℕ)) (next : design.CellId) : Type 0 where
  pub inst : design.Inst
  pub means : StepsTo libs id t inst
  pub typed : IsIdentifier inst.name.id
  pub list : new ≡ old ++ inst.name.id ∷ []
  pub leads : next ≡ inst.of

-- a note, and where the key of its property stands
pub record IsNoted (libs : List design.Lib) (top : design.CellId) (t : Placed) (n : design.Note) (place : ℕ) : Type 0 where
  pub mean : MeansNote libs top (bare t) n
  pub sound : IsSoundNote n
  pub path_part : Placed
  pub property_part : Placed
  pub at_path : slice_get (arguments t) 1 ≡ Some path_part
  pub at_property : slice_get (arguments t) 2 ≡ Some property_part
  pub named : defined property_part ≡ Some (n.property.key.id, place)

abbrev pub ReadNote : List design.Lib → design.CellId → Placed → NoteAt → Type 0
ReadNote libs top t n = IsNoted libs top t n.note n.place

-- a path and a key as bytes: a byte 0 behind each step, and then the key
abbrev pub flat : List (List ℕ) → List ℕ → List ℕ
flat [] key = key
flat (n ∷ ns) key = n ++ 0 ∷ flat ns key

-- a key that is there already, at the place of the earlier one
abbrev pub IsAgain : List (List ℕ × ℕ) → List ℕ → ℕ → MeaningFault → Type 0
IsAgain keys key place f = (earlier : ℕ) × Contains keys (key, earlier) × (f ≡ Clash Duplicate place earlier)

-- the mark of notes
abbrev pub is_mark : Bare → Bool
is_mark (Word' p n) = same n (codes "netdb_note")
is_mark _ = false

-- each form means the note, whose key as bytes stands with its place
abbrev pub AllNoted : List design.Lib → design.CellId → List Placed → List design.Note → List (List ℕ × ℕ) → Type 0
AllNoted libs top [] [] [] = Unit {0}
AllNoted libs top (t ∷ ts) (n ∷ ns) (k ∷ ks) = (IsNoted libs top t n k.1 × (k.0 ≡ flat n.path n.property.key.id)) × AllNoted libs top ts ns ks
AllNoted libs top ts ns ks = ⊥

-- The notes so far, with their keys; no two are equal, and none is beyond the limit.
pub record AreNoted (libs : List design.Lib) (top : design.CellId) (ts : List Placed) (ns : List design.Note) (keys : List (List ℕ × ℕ)) : Type 0 where
  pub all : AllNoted libs top ts ns keys
  pub differ : AreDistinct (map note_key ns)
  pub count : length ns ≤ MOST_NOTES

-- the notes that these forms mean; no two have the same path and key
pub record ReadNotes (libs : List design.Lib) (top : design.CellId) (ts : List Placed) (ns : List design.Note) : Type 0 where
  pub mean : Each (MeansNote libs top) (map bare ts) ns
  pub sound : AllByRecursion IsSoundNote ns
  pub count : length ns ≤ MOST_NOTES
  pub differ : AreDistinct (map note_key ns)

-- in notes: in one of them, two of one path and key, one beyond the limit
abbrev pub NotesFail : List design.Lib → design.CellId → List Placed → MeaningFault → Type 0
NotesFail libs top ts f = (Among (NoteFault libs top) ts f ⊎ AtTwo (SameNote libs top f) ts) ⊎ Beyond MOST_NOTES ts f

-- a fault of notes that stands whatever follows this one behind those
abbrev pub FailsBehind : List design.Lib → design.CellId → List Placed → Placed → MeaningFault → Type 0
FailsBehind libs top ts t f = (rest : List Placed) → NotesFail libs top (ts ++ t ∷ rest) f

-- The top and the notes that a design's form means.
pub record ReadTop (libs : List design.Lib) (t : Placed) (x : Top) : Type 0 where
  pub mean : MeansDesign libs x.notes (bare t) x.head
  pub name : IsTypedName x.head.name
  pub typed : All IsTypedProperty x.head.properties
  pub keys : HasDistinctKeys x.head.properties
  pub sound : AllByRecursion IsSoundNote x.notes
  pub count : length x.notes ≤ MOST_NOTES
  pub differ : AreDistinct (map note_key x.notes)
