-- How far the files of a command were read.
use Rattle.std.proofs.Common.{◌+◌, ◌++◌, List, [], ◌∷◌, inl, inr, Option, refl, sym, subst, append-nil, append_assoc}
use Rattle.std.specs.Prelude.{codes}
use Prim.Native.Nat.{ℕ}
use Rattle.netlist_schema.specs.Design.{Design}
use Rattle.netdb_outside.specs.Visits.{AddsVisit, Visit}
use Rattle.script_spec.specs.declared.script.Step.{Step}
use Rattle.netdb_spec.specs.declared.command.Wanted.{Wanted}
use Rattle.netdb_spec.specs.Visits.{Adds, AreReadToEnd, AreReadUpTo, CommandReads, IsBehindFiles, IsReadToEnd, Reading, StopsAt}
use Rattle.netdb_spec.specs.declared.status.Status.{Status}
use Rattle.netdb_spec.specs.declared.status.Status.TheVariants as status
use Rattle.netdb_spec.specs.Gives.{OutputGives, RunGives, SummaryGives, TextGives, UsesGive}
use Rattle.netdb_spec.specs.Checked.{CheckGives, VerdictGives}

-- ---- what was written is about no file

pub text_is_behind : (text : List ℕ) (old new : Option (List ℕ)) (result : Status) → TextGives text old new result → IsBehindFiles result
text_is_behind text old new status.Ok h = tt
text_is_behind text old new status.Usage h = absurd h
text_is_behind text old new (status.Missing word) h = absurd h
text_is_behind text old new (status.ReadFault word) h = absurd h
text_is_behind text old new status.WriteFault h = tt
text_is_behind text old new (status.BadEdif fault) h = absurd h
text_is_behind text old new (status.BadScript word line) h = absurd h
text_is_behind text old new (status.TooLarge word) h = absurd h
text_is_behind text old new status.NoTop h = absurd h
text_is_behind text old new status.LogFull h = absurd h
text_is_behind text old new status.NoMemory h = tt

pub output_is_behind : (wanted : Wanted) (d : Design) (old new : Option (List ℕ)) (result : Status) → OutputGives wanted d old new result → IsBehindFiles result
output_is_behind wanted d old new status.Ok h = tt
output_is_behind wanted d old new status.Usage h = absurd h.1
output_is_behind wanted d old new (status.Missing word) h = absurd h.1
output_is_behind wanted d old new (status.ReadFault word) h = absurd h.1
output_is_behind wanted d old new status.WriteFault h = tt
output_is_behind wanted d old new (status.BadEdif fault) h = absurd h.1
output_is_behind wanted d old new (status.BadScript word line) h = absurd h.1
output_is_behind wanted d old new (status.TooLarge word) h = absurd h.1
output_is_behind wanted d old new status.NoTop h = tt
output_is_behind wanted d old new status.LogFull h = absurd h.1
output_is_behind wanted d old new status.NoMemory h = tt

pub run_is_behind : (d : Design) (scripts : List (List Step)) (old new : Option (List ℕ)) (result : Status) → RunGives d scripts old new result → IsBehindFiles result
run_is_behind d scripts old new status.Ok h = tt
run_is_behind d scripts old new status.Usage h = absurd h
run_is_behind d scripts old new (status.Missing word) h = absurd h
run_is_behind d scripts old new (status.ReadFault word) h = absurd h
run_is_behind d scripts old new status.WriteFault h = tt
run_is_behind d scripts old new (status.BadEdif fault) h = absurd h
run_is_behind d scripts old new (status.BadScript word line) h = absurd h
run_is_behind d scripts old new (status.TooLarge word) h = absurd h
run_is_behind d scripts old new status.NoTop h = tt
run_is_behind d scripts old new status.LogFull h = tt
run_is_behind d scripts old new status.NoMemory h = tt

pub uses_are_behind : (d : Design) (scripts : List (List Step)) (old new : Option (List ℕ)) (result : Status) → UsesGive d scripts old new result → IsBehindFiles result
uses_are_behind d scripts old new status.Ok h = tt
uses_are_behind d scripts old new status.Usage h = absurd h
uses_are_behind d scripts old new (status.Missing word) h = absurd h
uses_are_behind d scripts old new (status.ReadFault word) h = absurd h
uses_are_behind d scripts old new status.WriteFault h = tt
uses_are_behind d scripts old new (status.BadEdif fault) h = absurd h
uses_are_behind d scripts old new (status.BadScript word line) h = absurd h
uses_are_behind d scripts old new (status.TooLarge word) h = absurd h
uses_are_behind d scripts old new status.NoTop h = tt
uses_are_behind d scripts old new status.LogFull h = tt
uses_are_behind d scripts old new status.NoMemory h = tt

verdict_is_behind : (d : Design) (scripts : List (List Step)) (report : List ℕ) (old new : Option (List ℕ)) (result : Status) → VerdictGives d scripts report old new result → IsBehindFiles result
verdict_is_behind d scripts report old new result (inl h) = text_is_behind (codes "yes" ++ 10 ∷ []) old new result h.1
verdict_is_behind d scripts report old new result (inr h) = text_is_behind (codes "no" ++ 10 ∷ []) old new result h.1

pub check_is_behind : (d : Design) (scripts : List (List Step)) (report : List ℕ) (old new : Option (List ℕ)) (result : Status) → CheckGives d scripts report old new result → IsBehindFiles result
check_is_behind d scripts report old new status.Ok h = tt
check_is_behind d scripts report old new status.Usage h = verdict_is_behind d scripts report old new status.Usage h.1
check_is_behind d scripts report old new (status.Missing word) h = verdict_is_behind d scripts report old new (status.Missing word) h.1
check_is_behind d scripts report old new (status.ReadFault word) h = verdict_is_behind d scripts report old new (status.ReadFault word) h.1
check_is_behind d scripts report old new status.WriteFault h = tt
check_is_behind d scripts report old new (status.BadEdif fault) h = verdict_is_behind d scripts report old new (status.BadEdif fault) h.1
check_is_behind d scripts report old new (status.BadScript word line) h = verdict_is_behind d scripts report old new (status.BadScript word line) h.1
check_is_behind d scripts report old new (status.TooLarge word) h = verdict_is_behind d scripts report old new (status.TooLarge word) h.1
check_is_behind d scripts report old new status.NoTop h = tt
check_is_behind d scripts report old new status.LogFull h = verdict_is_behind d scripts report old new status.LogFull h.1
check_is_behind d scripts report old new status.NoMemory h = tt

pub summary_is_behind : (n : ℕ) (old new : Option (List ℕ)) (result : Status) → SummaryGives n old new result → IsBehindFiles result
summary_is_behind n old new result (inl h) = subst IsBehindFiles (sym h.0) tt
summary_is_behind n old new result (inr h) = text_is_behind h.0 old new result h.2

-- ---- files one after the other

-- no file is read
pub none_read : (P : List Visit → Type 0) (at : ℕ) (result : Status) → IsBehindFiles result → Adds P P (CommandReads [] at result)
none_read P at result behind before start = ([], inl (behind, tt), subst P (sym (append-nil before)) start)

-- the first file is refused
pub first_stops : (old new : List Visit → Type 0) (file : Reading) (files : List Reading) (at : ℕ) (result : Status) → AddsVisit old new (StopsAt file at result) → Adds old new (CommandReads (file ∷ files) at result)
first_stops old new file files at result stops before start = let next = stops before start in (next.0 ∷ [], inr (inl (next.1, refl)), next.2)

one_more : (file : Reading) (files : List Reading) (at : ℕ) (result : Status) (visit : Visit) (visits : List Visit) → IsReadToEnd file visit → CommandReads files (at + 1) result visits
    → CommandReads (file ∷ files) at result (visit ∷ visits)
one_more file files at result visit visits read (inl h) = inl (h.0, (read, h.1))
one_more file files at result visit visits read (inr h) = inr (inr (read, h))

-- the first file is read, and then the others
pub first_read : (old mid new : List Visit → Type 0) (file : Reading) (files : List Reading) (at : ℕ) (result : Status) → AddsVisit old mid (IsReadToEnd file) → Adds mid new (CommandReads files (at + 1) result)
    → Adds old new (CommandReads (file ∷ files) at result)
first_read old mid new file files at result first others before start =
    let read = first before start in
    let rest = others (before ++ read.0 ∷ []) read.2 in
    (read.0 ∷ rest.0, one_more file files at result read.0 rest.0 read.1 rest.1, subst new (append_assoc before (read.0 ∷ []) rest.0) rest.2)

-- all are read
pub all_read : (old new : List Visit → Type 0) (files : List Reading) (at : ℕ) (result : Status) → IsBehindFiles result → Adds old new (AreReadToEnd files) → Adds old new (CommandReads files at result)
all_read old new files at result behind read before start = let all = read before start in (all.0, inl (behind, all.1), all.2)

-- one of them is refused
pub some_stops : (old new : List Visit → Type 0) (files : List Reading) (at : ℕ) (result : Status) → Adds old new (AreReadUpTo files at result) → Adds old new (CommandReads files at result)
some_stops old new files at result read before start = let all = read before start in (all.0, inr all.1, all.2)
