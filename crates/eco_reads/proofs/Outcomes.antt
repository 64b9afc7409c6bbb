-- Operations that are refused, and those for which there is no memory.
use Rattle.std.proofs.Common.{◌≡◌, [], append-nil, refl, sym, subst}
use Rattle.std.specs.Prelude.{Result, Ok, Err}
use Rattle.std.specs.Result.{IsErrAnd}
use Rattle.netlist_schema.specs.Types.{CellId}
use Rattle.edit_rules_spec.specs.Reading.{IsForName}
use Rattle.edit_rules_spec.specs.declared.reply.CellName.{CellName}
use Rattle.edit_rules_spec.specs.declared.reply.Reply.{Reply}
use Rattle.edit_spec.specs.declared.ops.Op.{Op}
use Rattle.edit_cells.specs.State.{State, HasRead, HasReadSome}
use Rattle.eco_reads.specs.Done.{IsDone, IsDoneOrFails}
use Rattle.eco_reads.specs.Outcome.{UnlessNoMemory, ReadsUnlessNoMemory, IsDoneOrRefused, IsNotRefused}
use Rattle.eco_reads.specs.Plan.{IsNamed}
use Rattle.eco_reads.specs.declared.op_error.OpError.{OpError}
use Rattle.eco_reads.specs.declared.op_error.OpError.TheVariants.{Refused, NoMemory}

-- what no rule refuses was done, or there was no memory
pub done_or : (s v : State) (op : Op) (result : Result Reply OpError) → IsNotRefused result → IsDoneOrFails result s v op → IsDoneOrRefused result s v op
done_or s v op (Ok reply) only done = done
done_or s v op (Err (Refused reply)) only done = absurd only
done_or s v op (Err NoMemory) only some = some

-- nothing was done
pub read_none : (s t : State) → t ≡ s → HasReadSome s t
read_none s t same =
    subst (λ (u : State). HasReadSome s u) (sym same) (record { base = refl; design = refl; written = refl; prefix = ([], sym (append-nil s.reads)) })

-- a step of it was refused, or there was no memory for it
pub refused_or : {T : Type 0} (s u : State) (op : Op) (Says : Result T Reply → Type 0) (result : Result Reply OpError) (error : OpError) → IsErrAnd result (λ e. e ≡ error)
    → UnlessNoMemory Says (Err error) → HasReadSome s u → ((reply : Reply) → Says (Err reply) → IsDone s u op reply) → IsDoneOrRefused result s u op
refused_or s u op Says (Ok reply) error handed says some done = absurd handed
refused_or s u op Says (Err e) error handed says some done =
    subst (λ (x : OpError). IsDoneOrRefused (Err x) s u op) (sym handed) (refused error says)
  where
    refused : (error : OpError) → UnlessNoMemory Says (Err error) → IsDoneOrRefused (Err error) s u op
    refused (Refused reply) says = done reply says
    refused NoMemory says = some

-- there was no memory for a step of it
pub short_or : (s u : State) (op : Op) (result : Result Reply OpError) → IsErrAnd result (λ e. e ≡ NoMemory) → HasReadSome s u → IsDoneOrRefused result s u op
short_or s u op (Ok reply) handed some = absurd handed
short_or s u op (Err e) handed some = subst (λ (x : OpError). IsDoneOrRefused (Err x) s u op) (sym handed) some

-- its cell is not there, or there was no memory to look for it
pub missing_or : (s t : State) (op : Op) (name : CellName) (result : Result Reply OpError) (error : OpError) → IsErrAnd result (λ e. e ≡ error)
    → UnlessNoMemory (IsNamed s.design name) (Err error) → ReadsUnlessNoMemory {T = CellId} (Err error) s t (IsForName s.design name)
    → ((reply : Reply) → HasRead s t (IsForName s.design name) → IsNamed s.design name (Err reply) → IsDone s t op reply) → IsDoneOrRefused result s t op
missing_or s t op name (Ok reply) error handed named reads done = absurd handed
missing_or s t op name (Err e) error handed named reads done =
    subst (λ (x : OpError). IsDoneOrRefused (Err x) s t op) (sym handed) (refused error named reads)
  where
    refused : (error : OpError) → UnlessNoMemory (IsNamed s.design name) (Err error) → ReadsUnlessNoMemory {T = CellId} (Err error) s t (IsForName s.design name) → IsDoneOrRefused (Err error) s t op
    refused (Refused reply) named reads = done reply reads named
    refused NoMemory named same = read_none s t same

-- the error of a step is that of what it is a step of
pub handed_on : {A B : Type 0} (P : Result A Reply → Type 0) (Q : Result B Reply → Type 0) (result : Result B OpError) (error : OpError) → IsErrAnd result (λ e. e ≡ error)
    → UnlessNoMemory P (Err error) → ((reply : Reply) → P (Err reply) → Q (Err reply)) → UnlessNoMemory Q result
handed_on P Q (Ok given) error handed says on = absurd handed
handed_on P Q (Err e) error handed says on = subst (λ (x : OpError). UnlessNoMemory Q (Err x)) (sym handed) (refused error says)
  where
    refused : (error : OpError) → UnlessNoMemory P (Err error) → UnlessNoMemory Q (Err error)
    refused (Refused reply) says = on reply says
    refused NoMemory says = tt
