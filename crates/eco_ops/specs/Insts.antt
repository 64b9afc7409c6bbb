-- One more instance.
use Rattle.std.specs.Prelude.{ℕ, Bool, not, List, Option}
use Rattle.netlist_schema.specs.Design.{Design, insts_in, nets_in}
use Rattle.netlist_schema.specs.Types.{CellId, Contents, Note}
use Rattle.edit_rules_spec.specs.Paths.{goes_through}
use Rattle.edit_spec.specs.AddInst.{with_inst}

-- the contents with one more
abbrev pub more_insts : List ℕ → CellId → Option Contents → Contents
more_insts inst of contents = record { insts = with_inst inst of (insts_in contents); nets = nets_in contents }

-- the path of a note does not go through an instance of a cell
abbrev pub is_other : Design → CellId → List ℕ → CellId → Note → Bool
is_other d cell inst top note = not (goes_through d cell inst top note.path)
