-- What an operation sees of a cell that is found, and what it comes to where none is.
use Rattle.std.proofs.Common.{◌≡◌, List, [], ◌∷◌, Option, Some, None, sym, ap, subst, ◌∙◌}
use Rattle.std.specs.Option.{option_and_then, option_or}
use Rattle.std.specs.Prelude.{is_none}
use Rattle.netlist_schema.specs.Design.{Design}
use Rattle.netlist_schema.specs.Types.{CellId, LibId}
use Rattle.edit_rules_spec.specs.Edit.{Edit}
use Rattle.edit_rules_spec.specs.Find.{cell_in, cell_named, lib_named}
use Rattle.edit_rules_spec.specs.Reading.{IsFor, IsForName}
use Rattle.edit_rules_spec.specs.Rule.{first, no_cell, no_lib, refuse, unless}
use Rattle.edit_rules_spec.specs.Seen.{contents_at, inside, named}
use Rattle.edit_rules_spec.specs.Objects.{face_at}
use Rattle.edit_rules_spec.specs.declared.reply.CellName.{CellName}
use Rattle.edit_rules_spec.specs.declared.reply.Reply.{Reply}
use Rattle.edit_rules_spec.specs.declared.reply.Reply.TheVariants.{NoCell, NoLib}
use Rattle.edit_cells.specs.State.{State, HasRead}

pub inside_is : (d : Design) (name : CellName) (id : CellId) → cell_named d name ≡ Some id → inside d name ≡ contents_at d id
inside_is d name id is = ap (option_and_then (contents_at d)) is

pub face_is : (d : Design) (name : CellName) (id : CellId) → cell_named d name ≡ Some id → (named d name).face ≡ face_at d id
face_is d name id is = ap (option_and_then (face_at d)) is

front : (lib : Option LibId) (f : LibId → Option CellId) (id : CellId) (rest : Option Reply) → option_and_then f lib ≡ Some id → option_or (refuse (is_none lib) NoLib) (option_or (refuse (is_none (option_and_then f lib)) NoCell) rest) ≡ rest
front None f id rest is = cc
front (Some l) f id rest is = ap (λ (c : Option CellId). option_or (refuse (is_none c) NoCell) rest) is

-- a cell that is found is not refused
pub found_first : (d : Design) (name : CellName) (id : CellId) (rest : List (Option Reply)) → cell_named d name ≡ Some id → first (no_lib (named d name) ∷ no_cell (named d name) ∷ rest) ≡ first rest
found_first d name id rest is = front (lib_named d name.lib) (cell_in d name.cell) id (first rest) is

pub or_front : (a b rest : Option Reply) (reply : Reply) → option_or a (option_or b None) ≡ Some reply → option_or a (option_or b rest) ≡ Some reply
or_front (Some x) b rest reply is = is
or_front None (Some y) rest reply is = is
or_front None None rest reply is = cc

-- what refuses a name refuses the operation
pub refused_first : (d : Design) (name : CellName) (rest : List (Option Reply)) (reply : Reply) → first (no_lib (named d name) ∷ no_cell (named d name) ∷ []) ≡ Some reply → first (no_lib (named d name) ∷ no_cell (named d name) ∷ rest) ≡ Some reply
refused_first d name rest reply is = or_front (no_lib (named d name)) (no_cell (named d name)) (first rest) reply is

pub refused_row : (d : Design) (name : CellName) (rest : List (Option Reply)) (reply done : Reply) (edits : List Edit) → first (no_lib (named d name) ∷ no_cell (named d name) ∷ []) ≡ Some reply → unless (first (no_lib (named d name) ∷ no_cell (named d name) ∷ rest)) done edits ≡ record { reply = reply; edits = [] }
refused_row d name rest reply done edits is = ap (λ (r : Option Reply). unless r done edits) (refused_first d name rest reply is)

pub found_row : (d : Design) (name : CellName) (id : CellId) (rest : List (Option Reply)) (done : Reply) (edits : List Edit) → cell_named d name ≡ Some id → unless (first (no_lib (named d name) ∷ no_cell (named d name) ∷ rest)) done edits ≡ unless (first rest) done edits
found_row d name id rest done edits is = ap (λ (r : Option Reply). unless r done edits) (found_first d name id rest is)

-- a library or a cell that is not there
pub no_such_lib : (d : Design) (name : CellName) → lib_named d name.lib ≡ None → (cell_named d name ≡ None) × (first (no_lib (named d name) ∷ no_cell (named d name) ∷ []) ≡ Some NoLib)
no_such_lib d name none = (
  ap (option_and_then (cell_in d name.cell)) none,
  ap (λ (l : Option LibId). option_or (refuse (is_none l) NoLib) (option_or (refuse (is_none (option_and_then (cell_in d name.cell) l)) NoCell) None)) none,
)

pub cell_in_lib : (d : Design) (name : CellName) (lib : LibId) (found : Option CellId) → lib_named d name.lib ≡ Some lib → cell_in d name.cell lib ≡ found → cell_named d name ≡ found
cell_in_lib d name lib found in_lib is = ap (option_and_then (cell_in d name.cell)) in_lib ∙ is

pub no_such_cell : (d : Design) (name : CellName) (lib : LibId) → lib_named d name.lib ≡ Some lib → cell_in d name.cell lib ≡ None → (cell_named d name ≡ None) × (first (no_lib (named d name) ∷ no_cell (named d name) ∷ []) ≡ Some NoCell)
no_such_cell d name lib in_lib none = (
  cell_in_lib d name lib None in_lib none,
  ap (λ (l : Option LibId). option_or (refuse (is_none l) NoLib) (option_or (refuse (is_none (option_and_then (cell_in d name.cell) l)) NoCell) None)) in_lib
      ∙ ap (λ (c : Option CellId). option_or (refuse (is_none c) NoCell) None) none,
)

-- what a look for a cell reads is what its name needs
pub name_read : (s t : State) (name : CellName) (lib : LibId) → lib_named s.design name.lib ≡ Some lib → HasRead s t (IsFor (cell_in s.design name.cell lib) (Some lib)) → HasRead s t (IsForName s.design name)
name_read s t name lib in_lib read =
    subst (λ (l : Option LibId). HasRead s t (IsFor (option_and_then (cell_in s.design name.cell) l) l)) (sym in_lib) read
