-- Operations overlay a later design; one more operation.
use Rattle.std.proofs.Common.{◌≡◌, ◌↔◌, ◌++◌, ◌⊎◌, inl, inr, ⊎_elim, List, [], ◌∷◌, refl, ap}
use Rattle.netlist_schema.specs.Design.{Design}
use Rattle.netlist_schema.specs.Types.{Object}
use Rattle.edit_rules_spec.specs.Objects.{Agrees, AgreesOn, Grown, IsClosed, IsThere}
use Rattle.edit_rules_spec.specs.Overlay.{IsOverlaid}
use Rattle.edit_spec.specs.Needs.{Needs, Writes, Written, Reads}
use Rattle.edit_spec.specs.Rows.{row_of, outcome}
use Rattle.edit_spec.specs.Step.{step, run}
use Rattle.edit_spec.specs.Typed.{IsTypedOp}
use Rattle.edit_spec.specs.declared.ops.Op.{Op}
use Rattle.edit_rules_spec.proofs.Edits.{Agrees-refl, Agrees-trans}
use Rattle.edit_rules_spec.proofs.Framed.{local_there}
use Rattle.edit_rules_spec.proofs.Overlaid.{one_overlay}
use Rattle.edit_rules_spec.proofs.There.{there_stays}
use Rattle.edit_rules_spec.proofs.Written.{either_told, edits_told}
use Rattle.edit_spec.proofs.Framed.{step_stays}
use Rattle.edit_spec.proofs.Local.{local}
use Rattle.edit_spec.proofs.Replayed.{replay}
use Rattle.edit_spec.proofs.Values.{run_is_grown}

pub run_stays : (ops : List Op) (d : Design) (o : Object) → ¬ Written d ops o → Agrees d (run d ops).design o
run_stays [] d o free = Agrees-refl d o
run_stays (op ∷ ops) d o free =
    Agrees-trans d (step d op).design (run d (op ∷ ops)).design o
    (step_stays d op o (λ is. free (inl is)))
    (run_stays ops (step d op).design o (λ is. free (inr is)))

-- what a commit makes of the last version e, said by what was made of the pinned version d
pub commit_overlays : (d e : Design) (ops : List Op) → IsClosed d → Grown d e → AgreesOn d e (Reads d ops) → IsOverlaid e (run d ops).design (Written d ops) (run e ops).design
commit_overlays d e ops closed grown agree =
    let same = replay d e ops closed grown agree in
    let up = run_is_grown e ops in record {
      heads = record { title = up.title; libs = up.libs; top = up.top };
      laid = same.written;
      others = λ o no. run_stays ops e o (λ is. no ((same.writes o).1 is));
    }

-- one more operation
pub run_push : (ops : List Op) (d : Design) (op : Op) → (run d (ops ++ op ∷ [])).design ≡ (step (run d ops).design op).design
run_push [] d op = refl
run_push (first ∷ ops) d op = run_push ops (step d first).design op

pub replies_push : (ops : List Op) (d : Design) (op : Op) → (run d (ops ++ op ∷ [])).replies ≡ (run d ops).replies ++ (step (run d ops).design op).reply ∷ []
replies_push [] d op = refl
replies_push (first ∷ ops) d op = ap (λ rest. (step d first).reply ∷ rest) (replies_push ops (step d first).design op)

pub reads_push : (ops : List Op) (d : Design) (op : Op) (o : Object) → Reads d (ops ++ op ∷ []) o ↔ (Reads d ops o ⊎ Needs (run d ops).design op o)
reads_push [] d op o = (λ is. ⊎_elim (λ (needs : Needs d op o). inr needs) (λ (never : ⊥). absurd never) is, λ is. ⊎_elim (λ (never : ⊥). absurd never) (λ (needs : Needs d op o). inl needs) is)
reads_push (first ∷ ops) d op o =
    let rest = reads_push ops (step d first).design op o in (
      λ is. ⊎_elim (λ (here : Needs d first o). inl (inl here)) (λ (there : Reads (step d first).design (ops ++ op ∷ []) o). ⊎_elim (λ (r : Reads (step d first).design ops o). inl (inr r)) (λ (n : Needs (run d (first ∷ ops)).design op o). inr n) (rest.0 there)) is,
      λ is. ⊎_elim (λ (left : Reads d (first ∷ ops) o). ⊎_elim (λ (here : Needs d first o). inl here) (λ (r : Reads (step d first).design ops o). inr (rest.1 (inl r))) left) (λ (n : Needs (run d (first ∷ ops)).design op o). inr (rest.1 (inr n))) is,
    )

pub writes_push : (ops : List Op) (d : Design) (op : Op) (o : Object) → Written d (ops ++ op ∷ []) o ↔ (Written d ops o ⊎ Writes (run d ops).design op o)
writes_push [] d op o = (λ is. elim is [ inl writes ↦ inr writes | inr never ↦ absurd never ], λ is. elim is [ inl never ↦ absurd never | inr writes ↦ inl writes ])
writes_push (first ∷ ops) d op o =
    let rest = writes_push ops (step d first).design op o in (
      λ is. elim is [
        | inl here ↦ inl (inl here)
        | inr there ↦ elim (rest.0 there) [ inl before ↦ inl (inr before) | inr last ↦ inr last ]
      ],
      λ is. elim is [
        | inl before ↦ elim before [ inl here ↦ inl here | inr there ↦ inr (rest.1 (inl there)) ]
        | inr last ↦ inr (rest.1 (inr last))
      ],
    )

-- what is written is there afterwards
pub step_there : (d : Design) (op : Op) (o : Object) → Writes d op o → IsThere (step d op).design o
step_there d op o is = local_there (λ x. row_of x op) (λ x. Needs x op) (IsTypedOp op) (local op) d o is

pub run_there : (ops : List Op) (d : Design) (o : Object) → Written d ops o → IsThere (run d ops).design o
run_there [] d o is = absurd is
run_there (op ∷ ops) d o is = elim is [
  | inl here ↦ there_stays (step d op).design (run d (op ∷ ops)).design o (run_is_grown (step d op).design ops) (step_there d op o here)
  | inr later ↦ run_there ops (step d op).design o later
]

-- whether an object is written is told
pub written_told : (ops : List Op) (d : Design) (o : Object) → Written d ops o ⊎ (¬ Written d ops o)
written_told [] d o = inr (λ is. is)
written_told (op ∷ ops) d o = either_told (edits_told (outcome d op).edits o) (written_told ops (step d op).design o)

-- so the overlay of what is written is the run
pub overlay_is_run : (d e : Design) (ops : List Op) (result : Design) → IsClosed d → Grown d e → AgreesOn d e (Reads d ops) → IsOverlaid e (run d ops).design (Written d ops) result → result ≡ (run e ops).design
overlay_is_run d e ops result closed grown agree laid =
    one_overlay e (run d ops).design result (run e ops).design (Written d ops) (written_told ops d) laid (commit_overlays d e ops closed grown agree)
