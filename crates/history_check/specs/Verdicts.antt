-- What a check answers.
use Rattle.std.specs.Prelude.{ℕ, Result, Ok, Err, List}
use Rattle.netlist_schema.specs.Design.{Design}
use Rattle.script_spec.specs.declared.script.Step.{Step}
use Rattle.history_check_spec.specs.Printed.{CannotWalk, PrintsNone, PrintsSome}
use Rattle.history_check.specs.declared.check.CheckError.{CheckError}
use Rattle.history_check.specs.declared.check.CheckError.TheVariants.{NoTop, NoMemory}
use Rattle.history_check.specs.declared.check.Verdict.{Verdict}
use Rattle.history_check.specs.declared.check.Verdict.TheVariants.{Yes, No}

-- `Yes` where some history prints the report, and `No` where none does; neither where a script walks that can't. An error says that, or
-- that memory was refused.
abbrev pub Checks : Design → List (List Step) → List ℕ → Result Verdict CheckError → Type 0
Checks d scripts report (Ok Yes) = PrintsSome d scripts report × ¬ CannotWalk d scripts
Checks d scripts report (Ok No) = PrintsNone d scripts report × ¬ CannotWalk d scripts
Checks d scripts report (Err NoTop) = CannotWalk d scripts
Checks d scripts report (Err NoMemory) = Unit {0}
