-- What reading by names and along paths comes to, as sets of objects.
use Rattle.std.specs.Prelude.{◌≡◌, ◌⊎◌, ℕ, List, [], ◌∷◌, Option, Some, None, IsSomeAnd}
use Rattle.netlist_schema.specs.Design.{Design}
use Rattle.netlist_schema.specs.Hierarchy.{IsBelow, insts_at}
use Rattle.netlist_schema.specs.Types.{CellId, Inst, LibId, Note, Object, TopHead}
use Rattle.netlist_schema.specs.declared.ids.Object.TheVariants.{Directory, Notes}
use Rattle.edit_rules_spec.specs.Find.{lib_named, cell_named, inst_named}
use Rattle.edit_rules_spec.specs.Objects.{face_object, contents_object}
use Rattle.edit_rules_spec.specs.Seen.{placed}
use Rattle.edit_rules_spec.specs.declared.reply.CellName.{CellName}

-- the object that a cell's name reads: the interface where the cell is found, the directory where only the library is
abbrev pub IsFor : Option CellId → Option LibId → Object → Type 0
IsFor (Some id) lib o = o ≡ face_object id
IsFor None (Some lib) o = o ≡ Directory lib
IsFor None None o = ⊥

abbrev pub IsForName : Design → CellName → Object → Type 0
IsForName d name o = IsFor (cell_named d name) (lib_named d name.lib) o

-- the contents of a cell that is found
abbrev pub IsInside : Option CellId → Object → Type 0
IsInside (Some id) o = o ≡ contents_object id
IsInside None o = ⊥

-- what a cell's name reads, and the contents of the cell where it is found
abbrev pub IsForCell : Design → CellName → Object → Type 0
IsForCell d name o = IsForName d name o ⊎ IsInside (cell_named d name) o

-- the interface of the cell of an instance, where there is one
abbrev pub IsFaceOf : Option Inst → Object → Type 0
IsFaceOf (Some inst) o = o ≡ face_object inst.of
IsFaceOf None o = ⊥

-- the interface of the cell of the instance of an end, where one is named and found
abbrev pub IsForEnd : Design → CellName → Option (List ℕ) → Object → Type 0
IsForEnd d cell None o = ⊥
IsForEnd d cell (Some inst) o = IsFaceOf (placed d cell inst) o

-- the contents of a cell or of one below it
abbrev pub IsAtOrBelow : Design → CellId → Object → Type 0
IsAtOrBelow d outer o = (o ≡ contents_object outer) ⊎ ((inner : CellId) × (o ≡ contents_object inner) × IsBelow d inner outer)

-- to place a cell in another, where both are found: the contents of the one, and those of the other and of all below it
abbrev pub IsForPlacing : Design → Option CellId → Option CellId → Object → Type 0
IsForPlacing d None of o = ⊥
IsForPlacing d (Some cell) None o = ⊥
IsForPlacing d (Some cell) (Some of) o = (o ≡ contents_object cell) ⊎ IsAtOrBelow d of o

-- the contents of a cell that a path reaches, as far as it leads
abbrev pub IsReached : Design → CellId → List (List ℕ) → Object → Type 0
IsReached d at [] o = o ≡ contents_object at
IsReached d at (step ∷ steps) o = (o ≡ contents_object at) ⊎ IsSomeAnd (inst_named step (insts_at d at)) (λ inst. IsReached d inst.of steps o)

-- the contents of the cells that the paths of these notes reach from the top
abbrev pub IsReachedBy : Design → CellId → List Note → Object → Type 0
IsReachedBy d top [] o = ⊥
IsReachedBy d top (note ∷ notes) o = IsReached d top note.path o ⊎ IsReachedBy d top notes o

abbrev pub IsForNotes : Design → Option CellId → Option TopHead → Object → Type 0
IsForNotes d None top o = ⊥
IsForNotes d (Some cell) None o = o ≡ Notes
IsForNotes d (Some cell) (Some top) o = (o ≡ Notes) ⊎ IsReachedBy d top.cell d.notes o

abbrev pub IsForPath : Design → Option TopHead → List (List ℕ) → Object → Type 0
IsForPath d None path o = ⊥
IsForPath d (Some top) path o = (o ≡ Notes) ⊎ IsReached d top.cell path o

abbrev pub IsNotesBelow : Option TopHead → Object → Type 0
IsNotesBelow None o = ⊥
IsNotesBelow (Some top) o = o ≡ Notes

-- the directory of a library that is found
abbrev pub IsForLib : Option LibId → Object → Type 0
IsForLib None o = ⊥
IsForLib (Some lib) o = o ≡ Directory lib
