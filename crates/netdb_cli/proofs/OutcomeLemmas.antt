-- What the outcome of a call says of its status and of what was counted.
use Rattle.std.proofs.Common.{◌≡◌, ◌+◌, ◌++◌, ◌∙◌, List, [], ◌∷◌, inl, inr, Option, refl, sym, subst, arith}
use Rattle.std.specs.Prelude.{codes}
use Prim.Native.Nat.{ℕ}
use Rattle.netlist_schema.specs.Design.{Design}
use Rattle.netdb_outside.specs.Outside.{SameFiles, Folder}
use Rattle.script_spec.specs.declared.script.Step.{Step}
use Rattle.edif_spec.specs.Files.{IsDesignFile}
use Rattle.netdb_spec.specs.Command.{Request, Show, Run, Generate, Uses, Check}
use Rattle.netdb_spec.specs.declared.command.Wanted.{Wanted}
use Rattle.netdb_spec.specs.Counts.{CountsWriting}
use Rattle.netdb_spec.specs.Refusals.{RefusesDesign, RefusesReport, RefusesScript, RefusesScripts}
use Rattle.netdb_spec.specs.Told.{IsRead}
use Rattle.netdb_spec.specs.declared.status.Status.{Status}
use Rattle.netdb_spec.specs.declared.status.Status.TheVariants as status
use Rattle.netdb_commands.proofs.InputLemmas.{stays}
use Rattle.netdb_spec.specs.Gives.{OutputGives, RunGives, SummaryGives, TextGives, UsesGive}
use Rattle.netdb_spec.specs.Checked.{CheckGives, VerdictGives}
use Rattle.netdb_spec.specs.Outcome.{Gives, ReportGives, ScriptsGive}

-- a design that was read stays one, since no file changes
pub read_stays : (old new : Option Folder) (name : List ℕ) (d : Design) → SameFiles old new → IsRead old name d → IsRead new name d
read_stays old new name d same read = record {
  valid = read.valid;
  reads_back = read.reads_back;
  file = stays old new name (λ bytes. IsDesignFile bytes d) same read.file;
}

-- what was written is no fault in reading
pub text_is_no_fault : (text : List ℕ) (old new : Option (List ℕ)) (word : ℕ) (result : Status) → TextGives text old new result → result ≡ status.ReadFault word → ⊥
text_is_no_fault text old new word result h is = subst (λ (s : Status). TextGives text old new s) is h

pub output_is_no_fault : (wanted : Wanted) (d : Design) (old new : Option (List ℕ)) (word : ℕ) (result : Status) → OutputGives wanted d old new result → result ≡ status.ReadFault word → ⊥
output_is_no_fault wanted d old new word result h is = (subst (λ (s : Status). OutputGives wanted d old new s) is h).1

pub run_is_no_fault : (d : Design) (scripts : List (List Step)) (old new : Option (List ℕ)) (word : ℕ) (result : Status) → RunGives d scripts old new result → result ≡ status.ReadFault word → ⊥
run_is_no_fault d scripts old new word result h is = subst (λ (s : Status). RunGives d scripts old new s) is h

pub uses_are_no_fault : (d : Design) (scripts : List (List Step)) (old new : Option (List ℕ)) (word : ℕ) (result : Status) → UsesGive d scripts old new result → result ≡ status.ReadFault word → ⊥
uses_are_no_fault d scripts old new word result h is = subst (λ (s : Status). UsesGive d scripts old new s) is h

pub verdict_is_no_fault : (d : Design) (scripts : List (List Step)) (report : List ℕ) (old new : Option (List ℕ)) (word : ℕ) (result : Status) → VerdictGives d scripts report old new result → result ≡ status.ReadFault word → ⊥
verdict_is_no_fault d scripts report old new word result (inl h) is = text_is_no_fault (codes "yes" ++ 10 ∷ []) old new word result h.1 is
verdict_is_no_fault d scripts report old new word result (inr h) is = text_is_no_fault (codes "no" ++ 10 ∷ []) old new word result h.1 is

pub check_is_no_fault : (d : Design) (scripts : List (List Step)) (report : List ℕ) (old new : Option (List ℕ)) (word : ℕ) (result : Status) → CheckGives d scripts report old new result → result ≡ status.ReadFault word → ⊥
check_is_no_fault d scripts report old new word result h is =
    verdict_is_no_fault d scripts report old new word (status.ReadFault word) (subst (λ (s : Status). CheckGives d scripts report old new s) is h).1 refl

pub summary_is_no_fault : (n : ℕ) (old new : Option (List ℕ)) (word : ℕ) (result : Status) → SummaryGives n old new result → result ≡ status.ReadFault word → ⊥
summary_is_no_fault n old new word result (inl h) is = absurd (cc (sym h.0 ∙ is))
summary_is_no_fault n old new word result (inr h) is = text_is_no_fault h.0 old new word result h.2 is

-- a refusal is no fault in writing
pub design_is_no_fault : (told : Option Folder) (name : List ℕ) (result : Status) → RefusesDesign told name result → result ≡ status.WriteFault → ⊥
design_is_no_fault told name result h is = subst (λ (s : Status). RefusesDesign told name s) is h

pub report_is_no_fault : (told : Option Folder) (name : List ℕ) (result : Status) → RefusesReport told name result → result ≡ status.WriteFault → ⊥
report_is_no_fault told name result h is = subst (λ (s : Status). RefusesReport told name s) is h

pub scripts_are_no_fault : (told : Option Folder) (names : List (List ℕ)) (at : ℕ) (result : Status) → RefusesScripts told names at result → result ≡ status.WriteFault → ⊥
scripts_are_no_fault told [] at result h is = h
scripts_are_no_fault told (name ∷ names) at result (inl h) is = subst (λ (s : Status). RefusesScript told name at s) is h
scripts_are_no_fault told (name ∷ names) at result (inr h) is = scripts_are_no_fault told names (at + 1) result h.2 is

-- what a command gives is not that its words are none
scripts_are_words : (told : Option Folder) (names : List (List ℕ)) (at : ℕ) → RefusesScripts told names at status.Usage → ⊥
scripts_are_words told [] at h = h
scripts_are_words told (name ∷ names) at (inl h) = h
scripts_are_words told (name ∷ names) at (inr h) = scripts_are_words told names (at + 1) h.2

read_are_words : (names : List (List ℕ)) (word : ℕ) (Done : List (List Step) → Type 0) (told : Option Folder) (old new : Option (List ℕ)) → ((scripts : List (List Step)) → Done scripts → ⊥)
    → ScriptsGive names word Done told old new status.Usage → ⊥
read_are_words names word Done told old new none (inl h) = scripts_are_words told names word h.0
read_are_words names word Done told old new none (inr h) = none h.0 h.3

verdict_is_words : (d : Design) (scripts : List (List Step)) (report : List ℕ) (old new : Option (List ℕ)) → VerdictGives d scripts report old new status.Usage → ⊥
verdict_is_words d scripts report old new (inl h) = h.1
verdict_is_words d scripts report old new (inr h) = h.1

report_is_words : (d : Design) (name : List ℕ) (names : List (List ℕ)) (told : Option Folder) (old new : Option (List ℕ)) → ReportGives d name names told old new status.Usage → ⊥
report_is_words d name names told old new (inl h) = h.0
report_is_words d name names told old new (inr h) =
    read_are_words names 3 (λ scripts. CheckGives d scripts h.0 old new status.Usage) told old new (λ scripts gives. verdict_is_words d scripts h.0 old new gives.1) h.2

are_words : (request : Request) (told : Option Folder) (old new : Option (List ℕ)) → Gives request told old new status.Usage → ⊥
are_words (Show name wanted) told old new (inl h) = h.0
are_words (Show name wanted) told old new (inr h) = h.3.1
are_words (Run name names) told old new (inl h) = h.0
are_words (Run name names) told old new (inr h) = read_are_words names 2 (λ scripts. RunGives h.0 scripts old new status.Usage) told old new (λ scripts none. none) h.2
are_words (Uses name names) told old new (inl h) = h.0
are_words (Uses name names) told old new (inr h) = read_are_words names 2 (λ scripts. UsesGive h.0 scripts old new status.Usage) told old new (λ scripts none. none) h.2
are_words (Check name report names) told old new (inl h) = h.0
are_words (Check name report names) told old new (inr h) = report_is_words h.0 report names told old new h.2
are_words (Generate n) told old new (inl h) = absurd (cc (h.0))
are_words (Generate n) told old new (inr h) = h.2

pub never_usage : (request : Request) (told : Option Folder) (old new : Option (List ℕ)) (result : Status) → Gives request told old new result → result ≡ status.Usage → ⊥
never_usage request told old new result h is = are_words request told old new (subst (λ (s : Status). Gives request told old new s) is h)

-- nothing was written, and no fault counted
pub nothing_counted : (count : ℕ) (result : Status) → (result ≡ status.WriteFault → ⊥) → CountsWriting count count result
nothing_counted count result none = record { fault = λ is. absurd (none is); never_falls = omega arith }
