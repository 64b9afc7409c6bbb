-- What operations come to on a later version is what was written, laid over it.
use Rattle.std.proofs.Common.{◌≡◌, ◌↔◌, List, Contains, sym, subst}
use Rattle.std.specs.List.{All}
use Rattle.netlist_schema.specs.Design.{Design}
use Rattle.netlist_schema.specs.Types.{Object}
use Rattle.netlist_schema.specs.Valid.{IsValid}
use Rattle.edit_rules_spec.specs.Objects.{Agrees, AgreesOn, Grown}
use Rattle.edit_rules_spec.proofs.Closed.{valid_is_closed}
use Rattle.edit_spec.specs.Needs.{Reads, Written}
use Rattle.edit_spec.specs.Step.{run}
use Rattle.edit_spec.specs.Typed.{IsTypedOp}
use Rattle.edit_spec.specs.declared.ops.Op.{Op}
use Rattle.edit_spec.proofs.Overlaid.{commit_overlays}
use Rattle.edit_spec.proofs.Values.{run_is_grown, run_keeps_valid}
use Rattle.edit_cells.specs.State.{State}
use Rattle.db_work.specs.Becomes.{CanBecome}

-- the run on the later version is what the work can become there
pub merges : (d e : Design) (ops : List Op) (work : State) → IsValid d → IsValid e → All IsTypedOp ops → Grown d e → AgreesOn d e (Reads d ops)
    → work.design ≡ (run d ops).design → ((o : Object) → Contains work.written o ↔ Written d ops o) → CanBecome e work (run e ops).design
merges d e ops work valid later typed grown agree design written =
    let both = commit_overlays d e ops (valid_is_closed d valid) grown agree in record {
      overlaid = record {
        heads = both.heads;
        laid = λ o is. subst (λ (x : Design). Agrees x (run e ops).design o) (sym design) (both.laid o ((written o).0 is));
        others = λ o no. both.others o (λ is. no ((written o).1 is));
      };
      grown = run_is_grown e ops;
      valid = run_keeps_valid e ops typed later;
    }
