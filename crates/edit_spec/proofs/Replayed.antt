-- The replay law.
use Rattle.std.proofs.Common.{◌≡◌, ⊎_elim, inl, inr, List, [], ◌∷◌, refl}
use Rattle.netlist_schema.specs.Design.{Design}
use Rattle.netlist_schema.specs.Types.{Object}
use Rattle.edit_rules_spec.specs.Objects.{Agrees, AgreesOn, AreSameObjects, Grown, IsClosed}
use Rattle.edit_spec.specs.Frame.{IsFramed, IsReplayed}
use Rattle.edit_spec.specs.Needs.{Needs, Reads, Writes, Written}
use Rattle.edit_spec.specs.Step.{step, run}
use Rattle.edit_spec.specs.declared.ops.Op.{Op}
use Rattle.edit_rules_spec.proofs.Reached.{either_same}
use Rattle.edit_spec.proofs.Framed.{frame, step_agrees, step_closed}

-- several operations, and what stays the same over them
record Replays (d e : Design) (ops : List Op) : Type 0 where
  replies : (run d ops).replies ≡ (run e ops).replies
  reads : AreSameObjects (Reads d ops) (Reads e ops)
  writes : AreSameObjects (Written d ops) (Written e ops)
  agrees : (o : Object) → Agrees d e o → Agrees (run d ops).design (run e ops).design o
  written : AgreesOn (run d ops).design (run e ops).design (Written d ops)

replays : (ops : List Op) (d e : Design) → IsClosed d → Grown d e → AgreesOn d e (Reads d ops) → Replays d e ops
replays [] d e closed grown agree = record {
  replies = refl;
  reads = λ o. (λ is. is, λ is. is);
  writes = λ o. (λ is. is, λ is. is);
  agrees = λ o is. is;
  written = λ o is. absurd is;
}
replays (op ∷ ops) d e closed grown agree =
    let at_first : AgreesOn d e (Needs d op) = λ o is. agree o (inl is) in
    let first : IsFramed d e op = frame d e op closed grown at_first in
    let after : (o : Object) → Agrees d e o → Agrees (step d op).design (step e op).design o = step_agrees d e op closed grown at_first in
    let rest : Replays (step d op).design (step e op).design ops = replays ops (step d op).design (step e op).design (step_closed d op closed) first.grown (λ o is. after o (agree o (inr is))) in
    record {
      replies = λ i. first.reply i ∷ rest.replies i;
      reads = λ o. either_same (first.needs o) (rest.reads o);
      writes = λ o. either_same (first.writes o) (rest.writes o);
      agrees = λ o is. rest.agrees o (after o is);
      written = λ o is. ⊎_elim
          (λ (now : Writes d op o). rest.agrees o (first.written o now))
          (λ (later : Written (step d op).design ops o). rest.written o later) is;
    }

pub replay : (d e : Design) (ops : List Op) → IsClosed d → Grown d e → AgreesOn d e (Reads d ops) → IsReplayed d e ops
replay d e ops closed grown agree =
    let both : Replays d e ops = replays ops d e closed grown agree in
    record { replies = both.replies; reads = both.reads; writes = both.writes; written = both.written }
