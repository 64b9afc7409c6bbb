-- What is the same for two designs that agree on what is needed.
use Rattle.std.specs.Prelude.{◌≡◌, List}
use Rattle.netlist_schema.specs.Design.{Design}
use Rattle.netlist_schema.specs.Types.{Object}
use Rattle.edit_rules_spec.specs.Frame.{IsFramedBy}
use Rattle.edit_rules_spec.specs.Objects.{AgreesOn, AreSameObjects}
use Rattle.edit_spec.specs.Needs.{Needs, Writes, Reads, Written}
use Rattle.edit_spec.specs.Rows.{row_of}
use Rattle.edit_spec.specs.Step.{step, run}
use Rattle.edit_spec.specs.declared.ops.Op.{Op}

-- one operation on both
abbrev pub IsFramed : Design → Design → Op → Type 0
IsFramed d e op = IsFramedBy (λ x. row_of x op) (λ x. Needs x op) d e

-- several operations on both
pub record IsReplayed (d e : Design) (ops : List Op) : Type 0 where
  pub replies : (run d ops).replies ≡ (run e ops).replies
  pub reads : AreSameObjects (Reads d ops) (Reads e ops)
  pub writes : AreSameObjects (Written d ops) (Written e ops)
  pub written : AgreesOn (run d ops).design (run e ops).design (Written d ops)

-- an operation that is refused changes nothing and writes nothing
pub record ChangesNothing (d : Design) (op : Op) : Type 0 where
  pub design : (step d op).design ≡ d
  pub writes : (o : Object) → ¬ Writes d op o
