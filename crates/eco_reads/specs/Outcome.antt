-- What an operation, or a step of it, comes to where a rule may refuse it, and memory may be refused.
use Rattle.std.specs.Prelude.{◌≡◌, Result, Ok, Err}
use Rattle.edit_rules_spec.specs.declared.reply.Reply.{Reply}
use Rattle.edit_spec.specs.declared.ops.Op.{Op}
use Rattle.edit_cells.specs.State.{State, HasRead, HasReadSome}
use Rattle.netlist_schema.specs.Types.{Object}
use Rattle.eco_reads.specs.Done.{IsDone}
use Rattle.eco_reads.specs.declared.op_error.OpError.{OpError}
use Rattle.eco_reads.specs.declared.op_error.OpError.TheVariants.{Refused, NoMemory}

-- what was given, or the reply that refuses it, is as this says; where memory was refused, nothing is said
abbrev pub UnlessNoMemory : {T : Type 0} → (Result T Reply → Type 0) → Result T OpError → Type 0
UnlessNoMemory Says (Ok given) = Says (Ok given)
UnlessNoMemory Says (Err (Refused reply)) = Says (Err reply)
UnlessNoMemory Says (Err NoMemory) = Unit {0}

-- these objects were read, before a refusal too; where memory was refused, nothing is changed
abbrev pub ReadsUnlessNoMemory : {T : Type 0} → Result T OpError → State → State → (Object → Type 0) → Type 0
ReadsUnlessNoMemory (Ok given) old new Objects = HasRead old new Objects
ReadsUnlessNoMemory (Err (Refused reply)) old new Objects = HasRead old new Objects
ReadsUnlessNoMemory (Err NoMemory) old new Objects = new ≡ old

-- the operation was done, a refusal is its reply; or memory was refused, and nothing but reading was done
abbrev pub IsDoneOrRefused : Result Reply OpError → State → State → Op → Type 0
IsDoneOrRefused (Ok reply) old new op = IsDone old new op reply
IsDoneOrRefused (Err (Refused reply)) old new op = IsDone old new op reply
IsDoneOrRefused (Err NoMemory) old new op = HasReadSome old new

-- no rule refuses it
abbrev pub IsNotRefused : {T : Type 0} → Result T OpError → Type 0
IsNotRefused (Ok given) = Unit {0}
IsNotRefused (Err (Refused reply)) = ⊥
IsNotRefused (Err NoMemory) = Unit {0}
