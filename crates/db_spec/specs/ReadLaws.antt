-- What is read is there.
use Rattle.std.specs.Prelude.{ℕ, List}
use Rattle.netlist_schema.specs.Design.{Design}
use Rattle.netlist_schema.specs.Types.{Object}
use Rattle.netlist_schema.specs.Valid.{IsValid}
use Rattle.edit_rules_spec.specs.Objects.{IsThere}
use Rattle.edit_spec.specs.Needs.{Needs}
use Rattle.edit_spec.specs.declared.ops.Op.{Op}
use Rattle.db_spec.specs.Answers.{IsConflict}
use Rattle.db_spec.specs.History.{state_after, version_at}
use Rattle.db_spec.specs.declared.event.Event.{Event}

-- an operation needs objects that are there
abbrev pub NeedsAreThere : Type 0
NeedsAreThere = (d : Design) (op : Op) (o : Object) → IsValid d → Needs d op o → IsThere d o

-- the object of a conflict is there in the version on which the operations were tried
abbrev pub ConflictsArePinned : Type 0
ConflictsArePinned = (d : Design) (history : List Event) (v : ℕ) (ops : List Op) (o : Object) (w : ℕ) → IsValid (version_at d history v)
    → IsConflict (state_after d history) v ops o w → IsThere (version_at d history v) o
