-- Changes of a design, part by part.
use Rattle.std.specs.Prelude.{◌≡◌, ◌⊎◌, ℕ, zero, suc, List, [], ◌∷◌, ◌++◌, length, option_map, IsSome}
use Rattle.std.specs.List.{All}
use Rattle.netlist_schema.specs.Design.{Design, lib_at, cells_in, insts_of}
use Rattle.netlist_schema.specs.Hierarchy.{IsCell}
use Rattle.netlist_schema.specs.Types.{CellBody, CellId, Contents, Lib, LibId, Note, Object, Property}
use Rattle.netlist_schema.specs.declared.ids.Object.TheVariants.{Directory, Notes}
use Rattle.edit_rules_spec.specs.Objects.{face_object, contents_object}

-- the list with the item at a place changed, where there is one
abbrev pub changed_at : {X : Type 0} → (X → X) → ℕ → List X → List X
changed_at f i [] = []
changed_at f zero (x ∷ xs) = f x ∷ xs
changed_at f (suc i) (x ∷ xs) = x ∷ changed_at f i xs

-- the design with a cell changed, where there is one
abbrev pub with_changed_cell : Design → CellId → (CellBody → CellBody) → Design
with_changed_cell d id f =
    record d { libs = changed_at (λ lib. record lib { cells = changed_at f id.slot lib.cells }) id.lib.0 d.libs }

-- the design with one more cell in a library, which goes last
abbrev pub lib_with_more : CellBody → Lib → Lib
lib_with_more body lib = record lib { cells = lib.cells ++ body ∷ [] }

abbrev pub with_more_cell : Design → LibId → CellBody → Design
with_more_cell d lib body = record d { libs = changed_at (lib_with_more body) lib.0 d.libs }

-- one change: a new cell, which gets this place, or other contents of a cell, other properties of its own, or other notes
pub data Edit : Type 0 where
  fresh : CellId → CellBody → Edit
  inner : CellId → Contents → Edit
  own : CellId → List Property → Edit
  noted : List Note → Edit

-- other contents, where there are any: a leaf stays a leaf
abbrev pub with_contents : Contents → CellBody → CellBody
with_contents contents body = record body { contents = option_map (λ _. contents) body.contents }

abbrev pub with_properties : List Property → CellBody → CellBody
with_properties properties body = record body { properties = properties }

-- the design after one change, and after several
abbrev pub edited_once : Design → Edit → Design
edited_once d (fresh id body) = with_more_cell d id.lib body
edited_once d (inner id contents) = with_changed_cell d id (with_contents contents)
edited_once d (own id properties) = with_changed_cell d id (with_properties properties)
edited_once d (noted notes) = record d { notes = notes }

abbrev pub edited : Design → List Edit → Design
edited d [] = d
edited d (edit ∷ edits) = edited (edited_once d edit) edits

-- the objects that a change writes
abbrev pub IsChangedBy : Edit → Object → Type 0
IsChangedBy (fresh id body) o = (o ≡ Directory id.lib) ⊎ (o ≡ face_object id) ⊎ (o ≡ contents_object id)
IsChangedBy (inner id contents) o = o ≡ contents_object id
IsChangedBy (own id properties) o = o ≡ face_object id
IsChangedBy (noted notes) o = o ≡ Notes

abbrev pub IsChanged : List Edit → Object → Type 0
IsChanged [] o = ⊥
IsChanged (edit ∷ edits) o = IsChangedBy edit o ⊎ IsChanged edits o

-- the two objects of a new cell
abbrev pub IsMadeBy : Edit → Object → Type 0
IsMadeBy (fresh id body) o = (o ≡ face_object id) ⊎ (o ≡ contents_object id)
IsMadeBy edit o = ⊥

abbrev pub IsMade : List Edit → Object → Type 0
IsMade [] o = ⊥
IsMade (edit ∷ edits) o = IsMadeBy edit o ⊎ IsMade edits o

-- a new cell goes last in its library
abbrev pub GoesLast : Design → Edit → Type 0
GoesLast d (fresh id body) = id.slot ≡ length (cells_in d id.lib)
GoesLast d edit = Unit {0}

abbrev pub AllGoLast : Design → List Edit → Type 0
AllGoLast d [] = Unit {0}
AllGoLast d (edit ∷ edits) = GoesLast d edit × AllGoLast (edited_once d edit) edits

-- the instances that a change puts in are of cells that are there
abbrev pub PlacesOld : Design → Edit → Type 0
PlacesOld d (fresh id body) = All (λ inst. IsCell d inst.of) (insts_of body)
PlacesOld d (inner id contents) = All (λ inst. IsCell d inst.of) contents.insts
PlacesOld d edit = Unit {0}

abbrev pub AllPlaceOld : Design → List Edit → Type 0
AllPlaceOld d [] = Unit {0}
AllPlaceOld d (edit ∷ edits) = PlacesOld d edit × AllPlaceOld (edited_once d edit) edits

-- what is changed is there: the library of a new cell, and the cell that gets other contents or other properties
abbrev pub FindsOld : Design → Edit → Type 0
FindsOld d (fresh id body) = IsSome (lib_at d id.lib)
FindsOld d (inner id contents) = IsCell d id
FindsOld d (own id properties) = IsCell d id
FindsOld d (noted notes) = Unit {0}

abbrev pub AllFindOld : Design → List Edit → Type 0
AllFindOld d [] = Unit {0}
AllFindOld d (edit ∷ edits) = FindsOld d edit × AllFindOld (edited_once d edit) edits
