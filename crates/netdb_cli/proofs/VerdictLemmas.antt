-- A verdict that was written, where the scripts can walk.
use Rattle.std.proofs.Common.{inl, inr, List, Option}
use Prim.Native.Nat.{ℕ}
use Rattle.netlist_schema.specs.Design.{Design}
use Rattle.script_spec.specs.Headline.{CanWalk}
use Rattle.script_spec.specs.declared.script.Step.{Step}
use Rattle.netdb_spec.specs.declared.status.Status.{Status}
use Rattle.netdb_spec.specs.declared.status.Status.TheVariants as status
use Rattle.netdb_spec.specs.Checked.{CheckGives, VerdictGives}

pub verdict_gives : (d : Design) (scripts : List (List Step)) (report : List ℕ) (old new : Option (List ℕ)) (result : Status) → CanWalk d scripts → VerdictGives d scripts report old new result → CheckGives d scripts report old new result
verdict_gives d scripts report old new status.Ok can h = (can, h)
verdict_gives d scripts report old new status.Usage can h = (can, h)
verdict_gives d scripts report old new (status.Missing word) can h = (can, h)
verdict_gives d scripts report old new (status.ReadFault word) can h = (can, h)
verdict_gives d scripts report old new status.WriteFault can h = (can, h)
verdict_gives d scripts report old new (status.BadEdif fault) can h = (can, h)
verdict_gives d scripts report old new (status.BadScript word line) can h = (can, h)
verdict_gives d scripts report old new (status.TooLarge word) can h = (can, h)
verdict_gives d scripts report old new status.NoTop can (inl h) = absurd h.1
verdict_gives d scripts report old new status.NoTop can (inr h) = absurd h.1
verdict_gives d scripts report old new status.LogFull can h = (can, h)
verdict_gives d scripts report old new status.NoMemory can h = inr (can, h)
