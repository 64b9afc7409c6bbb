-- Work that is brought to another version.
use Rattle.std.specs.Prelude.{◌≡◌, ◌≤◌, ◌⊎◌, Option, None, Contains, length, option_and_then}
use Rattle.std.specs.Option.{option_map}
use Rattle.netlist_schema.specs.Design.{Design, cell_at, cells_in}
use Rattle.netlist_schema.specs.Names.{cell_names}
use Rattle.netlist_schema.specs.Types.{CellBody, CellId, LibId, Object}
use Rattle.netlist_schema.specs.Valid.{IsValid}
use Rattle.netlist_schema.specs.declared.ids.Object.TheVariants.{Directory, Interface, Contents as Inside, Notes}
use Rattle.edit_rules_spec.specs.Objects.{AgreesOn, Grown, IsPrefix, inside_at}
use Rattle.edit_rules_spec.specs.Overlay.{HasSameHeads, IsOverlaid}
use Rattle.edit_cells.specs.State.{State}

-- the target has the objects that were written as they are in the work, and all others as they are in the head, of which it
-- is a later version
pub record CanBecome (head : Design) (work : State) (target : Design) : Type 0 where
  pub overlaid : IsOverlaid head work.design (Contains work.written) target
  pub grown : Grown head target
  pub valid : IsValid target

-- a body with the outside of the one and the inside of the other
abbrev pub put_together : CellBody → CellBody → CellBody
put_together outer inner = record outer { contents = inner.contents }

abbrev pub joined : Option CellBody → Option CellBody → Option CellBody
joined outer inner = option_and_then (λ a. option_map (put_together a) inner) outer

-- a body without its inside
abbrev pub shell_of : CellBody → CellBody
shell_of body = record body { contents = None }

-- a part of a cell, or the notes, is the same in both; of directories it says nothing
abbrev pub Meets : Design → Design → Object → Type 0
Meets d e (Directory lib) = Unit {0}
Meets d e (Interface id) = option_map shell_of (cell_at d id) ≡ option_map shell_of (cell_at e id)
Meets d e (Inside id) = inside_at d id ≡ inside_at e id
Meets d e Notes = d.notes ≡ e.notes

-- the directory of a library is that of the target
abbrev pub HasTargetNames : Design → Design → LibId → Type 0
HasTargetNames target now lib = cell_names (cells_in now lib) ≡ cell_names (cells_in target lib)

-- on the way to the target: its directories begin with those that are here, and what was not written is as in it
pub record IsBehind (work : State) (target now : Design) : Type 0 where
  pub laid : AgreesOn work.design target (Contains work.written)
  pub valid : IsValid target
  pub heads : HasSameHeads now target
  pub begins : (lib : LibId) → IsPrefix (cell_names (cells_in now lib)) (cell_names (cells_in target lib))
  pub rest : (lib : LibId) → ¬ Contains work.written (Directory lib) → HasTargetNames target now lib
  pub others : (o : Object) → ¬ Contains work.written o → Meets now target o

-- each cell is as it was, or as in the target
abbrev pub AreOldOrNew : Design → Design → Design → Type 0
AreOldOrNew target old new = (id : CellId) → (cell_at new id ≡ cell_at old id) ⊎ (cell_at new id ≡ cell_at target id)

-- cells were added on the way to the target, and directories that were full still are
pub record IsFuller (work : State) (target old new : Design) : Type 0 where
  pub behind : IsBehind work target new
  pub full : (lib : LibId) → HasTargetNames target old lib → HasTargetNames target new lib
  pub cells : AreOldOrNew target old new

-- the cells that come behind those of the head are as in the target
abbrev pub AreNewMet : Design → Design → Design → Type 0
AreNewMet head target now = (id : CellId) → length (cells_in head id.lib) ≤ id.slot → cell_at now id ≡ cell_at target id

-- all directories are those of the target, and what was not written is as in it
pub record IsNear (work : State) (target now : Design) : Type 0 where
  pub laid : AgreesOn work.design target (Contains work.written)
  pub heads : HasSameHeads now target
  pub full : (lib : LibId) → HasTargetNames target now lib
  pub others : (o : Object) → ¬ Contains work.written o → Meets now target o

-- an object is as in the target now, and so are those that were
pub record IsNearer (work : State) (target old new : Design) (object : Object) : Type 0 where
  pub near : IsNear work target new
  pub here : Meets new target object
  pub kept : (o : Object) → Meets old target o → Meets new target o
