-- What each operation is, as an operation, holds of all of them: the frame law, and what a step keeps.
use Rattle.std.proofs.Common.{◌≡◌, List, [], ap, subst}
use Rattle.netlist_schema.specs.Design.{Design}
use Rattle.netlist_schema.specs.Types.{Object}
use Rattle.netlist_schema.specs.Valid.{IsValid}
use Rattle.edit_rules_spec.specs.Edit.{Edit, edited, IsChanged}
use Rattle.edit_rules_spec.specs.Objects.{Agrees, AgreesOn, Grown, IsClosed}
use Rattle.edit_rules_spec.specs.Rule.{IsRefusal}
use Rattle.edit_spec.specs.Frame.{ChangesNothing, IsFramed}
use Rattle.edit_spec.specs.Needs.{Needs, Writes}
use Rattle.edit_spec.specs.Rows.{outcome, row_of}
use Rattle.edit_spec.specs.Step.{step}
use Rattle.edit_spec.specs.Typed.{IsTypedOp}
use Rattle.edit_spec.specs.declared.ops.Op.{Op}
use Rattle.edit_rules_spec.proofs.Framed.{local_frame, local_agrees, local_stays, local_closed, local_valid, local_refused}
use Rattle.edit_rules_spec.proofs.Growing.{edited_is_grown}
use Rattle.edit_spec.proofs.Local.{local}

pub step_stays : (d : Design) (op : Op) → AgreesOn d (step d op).design (λ o. ¬ Writes d op o)
step_stays d op = local_stays (λ x. row_of x op) (λ x. Needs x op) (IsTypedOp op) (local op) d

pub step_closed : (d : Design) (op : Op) → IsClosed d → IsClosed (step d op).design
step_closed d op closed = local_closed (λ x. row_of x op) (λ x. Needs x op) (IsTypedOp op) (local op) d closed

pub step_is_valid : (d : Design) (op : Op) → IsTypedOp op → IsValid d → IsValid (step d op).design
step_is_valid d op typed valid = local_valid (λ x. row_of x op) (λ x. Needs x op) (IsTypedOp op) (local op) d typed valid

pub step_is_grown : (d : Design) (op : Op) → Grown d (step d op).design
step_is_grown d op = edited_is_grown (outcome d op).edits d

pub refused_changes_nothing : (d : Design) (op : Op) → IsRefusal (step d op).reply → ChangesNothing d op
refused_changes_nothing d op is =
    let none : (outcome d op).edits ≡ [] = local_refused (λ x. row_of x op) (λ x. Needs x op) (IsTypedOp op) (local op) d is in
    record {
      design = ap (edited d) none;
      writes = λ o writes. subst (λ (edits : List Edit). IsChanged edits o) none writes;
    }

-- one operation on two designs that agree on what it needs
module _ (d e : Design) (op : Op) (closed : IsClosed d) (grown : Grown d e) (agree : AgreesOn d e (Needs d op)) where
  pub frame : IsFramed d e op
  frame = local_frame (λ x. row_of x op) (λ x. Needs x op) (IsTypedOp op) (local op) d e closed grown agree

  pub step_agrees : (o : Object) → Agrees d e o → Agrees (step d op).design (step e op).design o
  step_agrees = local_agrees (λ x. row_of x op) (λ x. Needs x op) (IsTypedOp op) (local op) d e closed grown agree
