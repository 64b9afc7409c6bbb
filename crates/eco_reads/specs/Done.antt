-- An operation that was done.
use Rattle.std.specs.Prelude.{◌≡◌, Result, MatchResult}
use Rattle.edit_spec.specs.Needs.{Needs, Writes}
use Rattle.edit_spec.specs.Step.{step}
use Rattle.edit_spec.specs.declared.ops.Op.{Op}
use Rattle.edit_rules_spec.specs.declared.reply.Reply.{Reply}
use Rattle.edit_cells.specs.State.{State, GrowsBy, HasReadSome}

-- the reply and the design are those of the step, the objects read and written go on by its needs and writes, and what
-- editing began with stays
pub record IsDone (old new : State) (op : Op) (answer : Reply) : Type 0 where
  pub base : new.base ≡ old.base
  pub reply : answer ≡ (step old.design op).reply
  pub design : new.design ≡ (step old.design op).design
  pub reads : GrowsBy old.reads new.reads (Needs old.design op)
  pub written : GrowsBy old.written new.written (Writes old.design op)

-- the operation was done, or memory was refused and nothing but reading was done
abbrev pub IsDoneOrFails : {E : Type 0} → Result Reply E → State → State → Op → Type 0
IsDoneOrFails result old new op = MatchResult result (IsDone old new op) (λ _. HasReadSome old new)
