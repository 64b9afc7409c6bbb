-- What a check of a report wrote, as far as its status says.
use Rattle.std.specs.Prelude.{◌≡◌, ◌⊎◌, ℕ, List, [], ◌∷◌, ◌++◌, codes, None, Option}
use Rattle.netlist_schema.specs.Design.{Design}
use Rattle.script_spec.specs.Headline.{CanWalk, SomeWalks}
use Rattle.script_spec.specs.declared.script.Step.{Step}
use Rattle.netdb_spec.specs.Gives.{TextGives}
use Rattle.history_check_spec.specs.Printed.{PrintsNone, PrintsSome}
use Rattle.netdb_spec.specs.declared.status.Status.{Status}
use Rattle.netdb_spec.specs.declared.status.Status.TheVariants as status

-- the line `yes` was written where a history prints the report, and the line `no` where none does, as far as the status says
abbrev pub VerdictGives : Design → List (List Step) → List ℕ → Option (List ℕ) → Option (List ℕ) → Status → Type 0
VerdictGives d scripts report old new result =
    (PrintsSome d scripts report × TextGives (codes "yes" ++ 10 ∷ []) old new result)
    ⊎ (PrintsNone d scripts report × TextGives (codes "no" ++ 10 ∷ []) old new result)

-- The verdict was written. Where a script walks and the design has no top, nothing is; nor where there was no memory for the check.
abbrev pub CheckGives : Design → List (List Step) → List ℕ → Option (List ℕ) → Option (List ℕ) → Status → Type 0
CheckGives d scripts report old new status.NoTop = SomeWalks scripts × (d.top ≡ None) × (new ≡ old)
CheckGives d scripts report old new status.NoMemory = (new ≡ old) ⊎ (CanWalk d scripts × VerdictGives d scripts report old new status.NoMemory)
CheckGives d scripts report old new result = CanWalk d scripts × VerdictGives d scripts report old new result
