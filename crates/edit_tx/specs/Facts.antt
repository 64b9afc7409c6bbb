-- Pins and transactions, as their callers see them.
use Rattle.std.specs.Prelude.{◌≡◌, ◌↔◌, ℕ, List, [], ◌∷◌, ◌++◌, Contains}
use Rattle.std.specs.List.{All}
use Rattle.netlist_schema.specs.Design.{Design}
use Rattle.netlist_schema.specs.Types.{Object}
use Rattle.edit_spec.specs.Needs.{Needs, Writes, Reads, Written}
use Rattle.edit_spec.specs.Step.{step, run}
use Rattle.edit_spec.specs.Typed.{IsTypedOp}
use Rattle.edit_spec.specs.declared.ops.Op.{Op}
use Rattle.edit_rules_spec.specs.declared.reply.Reply.{Reply}
use Rattle.edit_cells.specs.State.{GrowsBy}

-- a pin: its number, the caller that holds it, its version, and the design of that version
pub record PinFacts : Type 0 where
  pub number : ℕ
  pub caller : ℕ
  pub version : ℕ
  pub design : Design

-- a transaction: its pin, the operations run, their replies, and the objects read and written
pub record TxFacts : Type 0 where
  pub pin : PinFacts
  pub ops : List Op
  pub replies : List Reply
  pub reads : List Object
  pub written : List Object

-- what holds of each transaction: the replies are those of its operations on the pinned version, and so are, as sets, the
-- objects read and written; operations are as their types have them
pub record IsTried (tx : TxFacts) : Type 0 where
  pub replies : tx.replies ≡ (run tx.pin.design tx.ops).replies
  pub reads : (o : Object) → Contains tx.reads o ↔ Reads tx.pin.design tx.ops o
  pub written : (o : Object) → Contains tx.written o ↔ Written tx.pin.design tx.ops o
  pub typed : All IsTypedOp tx.ops

-- nothing was run yet
abbrev pub started : PinFacts → TxFacts
started pin = record { pin = pin; ops = []; replies = []; reads = []; written = [] }

-- one more operation was run, on what those before it leave of the pinned version
pub record HasRun (old new : TxFacts) (op : Op) : Type 0 where
  pub pin : new.pin ≡ old.pin
  pub ops : new.ops ≡ old.ops ++ op ∷ []
  pub replies : new.replies ≡ old.replies ++ (step (run old.pin.design old.ops).design op).reply ∷ []
  pub reads : GrowsBy old.reads new.reads (Needs (run old.pin.design old.ops).design op)
  pub written : GrowsBy old.written new.written (Writes (run old.pin.design old.ops).design op)
