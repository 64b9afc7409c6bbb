-- Steps of an operation that are refused, or for which there is no memory, by what the step plans.
use Rattle.std.proofs.Common.{◌≡◌, List}
use Rattle.std.specs.Prelude.{Option, Result, Err}
use Rattle.std.specs.Result.{IsErrAnd}
use Rattle.netlist_schema.specs.Types.{CellBody, Contents, Note}
use Rattle.edit_rules_spec.specs.declared.reply.Reply.{Reply}
use Rattle.edit_spec.specs.declared.ops.Op.{Op}
use Rattle.edit_cells.specs.State.{State, HasReadSome}
use Rattle.eco_reads.specs.Done.{IsDone}
use Rattle.eco_reads.specs.Outcome.{UnlessNoMemory, IsDoneOrRefused}
use Rattle.eco_reads.specs.Plan.{AreNotesPlanned, IsPlanned}
use Rattle.eco_reads.specs.declared.op_error.OpError.{OpError}
use Rattle.eco_reads.specs.declared.plan.Plan.{Plan}
use Rattle.eco_reads.proofs.Outcomes.{refused_or}
use Rattle.eco_plans.specs.Add.{IsCellPlanned}

pub plan_refused : (s u : State) (op : Op) (old : Option Contents) (refusal : Option Reply) (new : Contents) (result : Result Reply OpError) (error : OpError) → IsErrAnd result (λ e. e ≡ error)
    → UnlessNoMemory {T = Plan} (IsPlanned old refusal new) (Err error) → HasReadSome s u → ((reply : Reply) → IsPlanned old refusal new (Err reply) → IsDone s u op reply) → IsDoneOrRefused result s u op
plan_refused s u op old refusal new = refused_or {T = Plan} s u op (IsPlanned old refusal new)

pub notes_refused : (s u : State) (op : Op) (refusal : Option Reply) (new : List Note) (result : Result Reply OpError) (error : OpError) → IsErrAnd result (λ e. e ≡ error)
    → UnlessNoMemory {T = List Note} (AreNotesPlanned refusal new) (Err error) → HasReadSome s u → ((reply : Reply) → AreNotesPlanned refusal new (Err reply) → IsDone s u op reply) → IsDoneOrRefused result s u op
notes_refused s u op refusal new = refused_or {T = List Note} s u op (AreNotesPlanned refusal new)

pub cell_refused : (s u : State) (op : Op) (refusal : Option Reply) (new : CellBody) (result : Result Reply OpError) (error : OpError) → IsErrAnd result (λ e. e ≡ error)
    → UnlessNoMemory {T = CellBody} (IsCellPlanned refusal new) (Err error) → HasReadSome s u → ((reply : Reply) → IsCellPlanned refusal new (Err reply) → IsDone s u op reply) → IsDoneOrRefused result s u op
cell_refused s u op refusal new = refused_or {T = CellBody} s u op (IsCellPlanned refusal new)
