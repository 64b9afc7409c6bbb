-- What is written of a run that is closed: its report, and the uses of its last version.
use Rattle.std.proofs.Common.{◌≡◌, ℕ, Bool, true, false, List, ◌++◌, Option, ap, subst, refl, inr}
use Rattle.std.specs.Prelude.{Ok, Err, OnErr, Result}
use Rattle.netlist_schema.specs.Design.{Design}
use Rattle.netdb_outside.specs.Outside.{Appends, AppendsFront}
use Rattle.netdb_outside.specs.declared.write_error.WriteError.{WriteError}
use Rattle.netdb_outside.specs.declared.write_error.WriteError.TheVariants.{NoMemory, WriteFault}
use Rattle.db_spec.specs.declared.event.Event.{Event}
use Rattle.script_spec.specs.Report.{head_design}
use Rattle.script_spec.specs.declared.script.Step.{Step}
use Rattle.db_version.specs.Shot.{Shot}
use Rattle.db_core.specs.Story.{Story}
use Rattle.script_run_spec.specs.JointLaws.{EndedIsPrinted}
use Rattle.script_run_spec.specs.Written.{written_report}
use Rattle.used_spec.specs.HeadUses.{head_uses_text}
use Rattle.script_run_all.specs.Run.{HaveRun}
use Rattle.script_run_all.specs.declared.ended.RunEnd.TheVariants.{Whole, LogFull}
use Rattle.script_run_all.proofs.Reports.{Printed, printed, ends_in, text_of}
use Rattle.used_spec.specs.UsesReports.{IsFullUses, IsUses, IsUsesFront}
use Rattle.run_uses.specs.Written.{UsesWrite}

-- both texts of a run on a design
abbrev both_of : Design → Story → List (List ℕ) → List ℕ
both_of d core texts = text_of d core texts ++ head_uses_text d core.events

is_full : (d : Design) (scripts : List (List Step)) (core : Story) (texts : List (List ℕ)) (full : Bool) → HaveRun d scripts core texts full → Printed d scripts core true texts → IsFullUses d scripts (both_of d core texts)
is_full d scripts core texts full run p = record {
  report = text_of d core texts;
  told = record { report = record { history = core.events; prints = p.0; full = p.1 }; last = ends_in d scripts core texts full run };
  parts = refl;
}

is_whole : (d : Design) (scripts : List (List Step)) (core : Story) (texts : List (List ℕ)) (full : Bool) → HaveRun d scripts core texts full → Printed d scripts core false texts → IsUses d scripts (both_of d core texts)
is_whole d scripts core texts full run p = record {
  report = text_of d core texts;
  told = record { report = record { history = core.events; prints = p.0; whole = p.1 }; last = ends_in d scripts core texts full run };
  parts = refl;
}

-- what is written of the opening design of the core is written of the design
pub wrote_full : EndedIsPrinted → (d : Design) (scripts : List (List Step)) (core : Story) (texts : List (List ℕ)) (full : Bool) (old new : Option (List ℕ))
    → HaveRun d scripts core texts full → full ≡ true → Appends old new (written_report (head_design core.opening core.events) core.events texts ++ head_uses_text core.opening core.events) → UsesWrite d scripts old new (Ok LogFull)
wrote_full law d scripts core texts full old new run is all = (
  both_of d core texts,
  is_full d scripts core texts full run (subst (λ (b : Bool). Printed d scripts core b texts) is (printed law d scripts core texts full run)),
  subst (λ (e : Design). Appends old new (both_of e core texts)) run.opening all,
)

pub wrote_whole : EndedIsPrinted → (d : Design) (scripts : List (List Step)) (core : Story) (texts : List (List ℕ)) (full : Bool) (old new : Option (List ℕ))
    → HaveRun d scripts core texts full → full ≡ false → Appends old new (written_report (head_design core.opening core.events) core.events texts ++ head_uses_text core.opening core.events) → UsesWrite d scripts old new (Ok Whole)
wrote_whole law d scripts core texts full old new run is all = (
  both_of d core texts,
  is_whole d scripts core texts full run (subst (λ (b : Bool). Printed d scripts core b texts) is (printed law d scripts core texts full run)),
  subst (λ (e : Design). Appends old new (both_of e core texts)) run.opening all,
)

-- a front of both
front_of : EndedIsPrinted → (d : Design) (scripts : List (List Step)) (core : Story) (texts : List (List ℕ)) (full : Bool) → HaveRun d scripts core texts full
    → (front left : List ℕ) → both_of d core texts ≡ front ++ left → IsUsesFront d scripts front
front_of law d scripts core texts full run front left parts = record {
  report = text_of d core texts;
  rest = left;
  history = core.events;
  prints = (printed law d scripts core texts full run).0;
  front = parts;
}

pub wrote_front : EndedIsPrinted → (d : Design) (scripts : List (List Step)) (core : Story) (texts : List (List ℕ)) (full : Bool) (old new : Option (List ℕ)) (error : WriteError)
    → HaveRun d scripts core texts full → AppendsFront old new (written_report (head_design core.opening core.events) core.events texts ++ head_uses_text core.opening core.events) → UsesWrite d scripts old new (Err error)
wrote_front law d scripts core texts full old new WriteFault run part =
    let here = subst (λ (e : Design). AppendsFront old new (both_of e core texts)) run.opening part in
    (here.0, front_of law d scripts core texts full run here.0 here.1 here.2, here.3)
wrote_front law d scripts core texts full old new NoMemory run part =
    let here = subst (λ (e : Design). AppendsFront old new (both_of e core texts)) run.opening part in
    inr (here.0, front_of law d scripts core texts full run here.0 here.1 here.2, here.3)

-- what was lent to be written is the opening design and the history
pub lent_uses : (core : Story) (lent : Shot) (events : List Event) → lent ≡ record { version = 0; design = core.opening } → events ≡ core.events → head_uses_text lent.design events ≡ head_uses_text core.opening core.events
lent_uses core lent events is same = ap (λ (x : Design × List Event). head_uses_text x.0 x.1) (λ i. ((is i).design, same i))

-- ---- what holds at an error

-- what holds at any rate
pub on_any_err : {A E : Type 0} (r : Result A E) (P : Type 0) → P → OnErr r P
on_any_err (Ok x) P p = tt
on_any_err (Err e) P p = p
