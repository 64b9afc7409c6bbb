-- What an ungroup reads, as a set of objects; and that it is local: it sees what it needs and no more, and keeps a valid design valid.
use Rattle.std.specs.Prelude.{◌≡◌, ◌⊎◌, ℕ, List, Option, Some, None}
use Rattle.netlist_schema.specs.Design.{Design}
use Rattle.netlist_schema.specs.Types.{Inst, Object}
use Rattle.edit_rules_spec.specs.Find.{cell_named}
use Rattle.edit_rules_spec.specs.Local.{IsLocal}
use Rattle.edit_rules_spec.specs.Objects.{contents_object, face_object}
use Rattle.edit_rules_spec.specs.Reading.{IsForCell, IsForNotes}
use Rattle.edit_rules_spec.specs.Seen.{placed}
use Rattle.edit_rules_spec.specs.declared.reply.CellName.{CellName}
use Rattle.ungroup_spec.specs.Ungroup.{ungroup}

-- both objects of the instance's cell, where the instance is found
abbrev pub IsForInst : Option Inst → Object → Type 0
IsForInst None o = ⊥
IsForInst (Some inst) o = (o ≡ face_object inst.of) ⊎ (o ≡ contents_object inst.of)

-- the objects that an ungroup needs: what the cell's name reads, and the cell's contents; the notes, and the contents of the cells
-- that their paths reach; and both objects of the instance's cell
abbrev pub Needs : Design → CellName → List ℕ → Object → Type 0
Needs d cell name o = IsForCell d cell o ⊎ (IsForNotes d (cell_named d cell) d.top o ⊎ IsForInst (placed d cell name) o)

-- the operation is local, whatever names it is given
abbrev pub UngroupIsLocal : Type 0
UngroupIsLocal = (cell : CellName) (name : List ℕ) → IsLocal (λ d. ungroup d cell name) (λ d. Needs d cell name) (Unit {0})
