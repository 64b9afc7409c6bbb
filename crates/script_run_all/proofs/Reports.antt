-- What is written of a run that is closed.
use Rattle.std.proofs.Common.{◌≡◌, ◌≤◌, ℕ, Bool, true, false, List, ◌++◌, Option, ap, sym, subst, refl, inr, arith}
use Rattle.std.specs.Prelude.{MatchBool, Ok, Err}
use Rattle.std.specs.List.{All}
use Rattle.netlist_schema.specs.Design.{Design}
use Rattle.netlist_schema.specs.Valid.{IsValid}
use Rattle.netdb_outside.specs.Outside.{Appends, AppendsFront}
use Rattle.netdb_outside.specs.declared.write_error.WriteError.{WriteError}
use Rattle.netdb_outside.specs.declared.write_error.WriteError.TheVariants.{NoMemory, WriteFault}
use Rattle.edif_spec.specs.Arranged.{arranged}
use Rattle.edif_spec.specs.Canonical.{tree_of}
use Rattle.edif_spec.proofs.ReadBack.{text_meant_back, text_spelled_back}
use Rattle.db_spec.specs.History.{Legal, state_after}
use Rattle.db_spec.specs.State.{head}
use Rattle.db_spec.specs.declared.event.Event.{Event}
use Rattle.db_spec.proofs.Promised.{valid_at}
use Rattle.script_spec.specs.Headline.{IsWhole, SomeFull, WritesReportFront}
use Rattle.script_spec.specs.Report.{Prints, head_design}
use Rattle.script_spec.specs.declared.script.Step.{Step}
use Rattle.db_version.specs.Shot.{Shot}
use Rattle.db_core.specs.Story.{Story, shot, state}
use Rattle.script_run_spec.specs.JointLaws.{EndedIsPrinted}
use Rattle.script_run_spec.specs.Written.{report_lines, written_report}
use Rattle.script_run_all.specs.Run.{HaveRun}
use Rattle.script_run_spec.specs.Reports.{EndsIn, IsFullReport, IsReport}
use Rattle.script_run_all.specs.Written.{RunWrites}
use Rattle.script_run_all.specs.declared.ended.RunEnd.TheVariants.{Whole, LogFull}

-- the text that is written of a run
abbrev pub text_of : Design → Story → List (List ℕ) → List ℕ
text_of d core texts = written_report (head_design d core.events) core.events texts

-- it is the report of the history, and the ends of the scripts are as is told
abbrev pub Printed : Design → List (List Step) → Story → Bool → List (List ℕ) → Type 0
Printed d scripts core full texts =
    (prints : Prints d scripts (text_of d core texts) core.events) × MatchBool full (SomeFull prints.results) (All (λ came. IsWhole came.ending) prints.results)

pub printed : EndedIsPrinted → (d : Design) (scripts : List (List Step)) (core : Story) (texts : List (List ℕ)) (full : Bool) → HaveRun d scripts core texts full → Printed d scripts core full texts
printed law d scripts core texts full run =
    let legal : Legal d core.events = subst (λ (e : Design). Legal e core.events) run.opening run.sound.legal in
    let reported = law d scripts core.events run.ends legal run.callers run.each in
    subst (Printed d scripts core full) (sym run.told)
    (reported.prints, subst (λ (b : Bool). MatchBool b (SomeFull reported.prints.results) (All (λ came. IsWhole came.ending) reported.prints.results)) (sym run.full) reported.endings)

itself : (n : ℕ) → n ≤ n
itself n = omega arith

-- the last version is valid, so the text ends in what reads back
pub ends_in : (d : Design) (scripts : List (List Step)) (core : Story) (texts : List (List ℕ)) (full : Bool) → HaveRun d scripts core texts full
    → EndsIn (text_of d core texts) (head_design d core.events)
ends_in d scripts core texts full run =
    let last = head_design d core.events in
    let opening : IsValid d = subst IsValid run.opening run.sound.valid in
    let valid : IsValid last = valid_at d core.events (head (state_after d core.events)) opening run.sound.typed (itself (head (state_after d core.events))) in record {
      front = report_lines last core.events texts;
      parts = refl;
      tree = tree_of (arranged last);
      spelled = text_spelled_back last valid;
      means = text_meant_back last valid;
    }

is_full : (d : Design) (scripts : List (List Step)) (core : Story) (texts : List (List ℕ)) → Printed d scripts core true texts → EndsIn (text_of d core texts) (head_design d core.events)
    → IsFullReport d scripts (text_of d core texts)
is_full d scripts core texts p ends = record { report = record { history = core.events; prints = p.0; full = p.1 }; last = ends }

is_whole : (d : Design) (scripts : List (List Step)) (core : Story) (texts : List (List ℕ)) → Printed d scripts core false texts → EndsIn (text_of d core texts) (head_design d core.events)
    → IsReport d scripts (text_of d core texts)
is_whole d scripts core texts p ends = record { report = record { history = core.events; prints = p.0; whole = p.1 }; last = ends }

-- what is written of the opening design of the core is written of the design
pub wrote_full : EndedIsPrinted → (d : Design) (scripts : List (List Step)) (core : Story) (texts : List (List ℕ)) (full : Bool) (old new : Option (List ℕ))
    → HaveRun d scripts core texts full → full ≡ true → Appends old new (written_report (head_design core.opening core.events) core.events texts) → RunWrites d scripts old new (Ok LogFull)
wrote_full law d scripts core texts full old new run is all = (
  text_of d core texts,
  is_full d scripts core texts (subst (λ (b : Bool). Printed d scripts core b texts) is (printed law d scripts core texts full run)) (ends_in d scripts core texts full run),
  subst (λ (e : Design). Appends old new (text_of e core texts)) run.opening all,
)

pub wrote_whole : EndedIsPrinted → (d : Design) (scripts : List (List Step)) (core : Story) (texts : List (List ℕ)) (full : Bool) (old new : Option (List ℕ))
    → HaveRun d scripts core texts full → full ≡ false → Appends old new (written_report (head_design core.opening core.events) core.events texts) → RunWrites d scripts old new (Ok Whole)
wrote_whole law d scripts core texts full old new run is all = (
  text_of d core texts,
  is_whole d scripts core texts (subst (λ (b : Bool). Printed d scripts core b texts) is (printed law d scripts core texts full run)) (ends_in d scripts core texts full run),
  subst (λ (e : Design). Appends old new (text_of e core texts)) run.opening all,
)

-- a front of the report
front_of : EndedIsPrinted → (d : Design) (scripts : List (List Step)) (core : Story) (texts : List (List ℕ)) (full : Bool) → HaveRun d scripts core texts full
    → (front left : List ℕ) → text_of d core texts ≡ front ++ left → WritesReportFront d scripts front
front_of law d scripts core texts full run front left parts = record {
  text = text_of d core texts;
  rest = left;
  history = core.events;
  prints = (printed law d scripts core texts full run).0;
  front = parts;
}

pub wrote_front : EndedIsPrinted → (d : Design) (scripts : List (List Step)) (core : Story) (texts : List (List ℕ)) (full : Bool) (old new : Option (List ℕ)) (error : WriteError)
    → HaveRun d scripts core texts full → AppendsFront old new (written_report (head_design core.opening core.events) core.events texts) → RunWrites d scripts old new (Err error)
wrote_front law d scripts core texts full old new WriteFault run part =
    let here = subst (λ (e : Design). AppendsFront old new (text_of e core texts)) run.opening part in
    (here.0, front_of law d scripts core texts full run here.0 here.1 here.2, here.3)
wrote_front law d scripts core texts full old new NoMemory run part =
    let here = subst (λ (e : Design). AppendsFront old new (text_of e core texts)) run.opening part in
    inr (here.0, front_of law d scripts core texts full run here.0 here.1 here.2, here.3)

-- what was lent to be written is the last version, the history and the transcripts
lent_text : (core : Story) (texts : List (List ℕ)) (last : Shot) (events : List Event) (lent : List (List ℕ)) → last ≡ shot (state core) (head (state core)) → events ≡ core.events → lent ≡ texts
    → written_report last.design events lent ≡ written_report (head_design core.opening core.events) core.events texts
lent_text core texts last events lent is same all =
    ap (λ (x : Design × (List Event × List (List ℕ))). written_report x.0 x.1.0 x.1.1) (λ i. ((is i).design, (same i, all i)))

pub lent_whole : (core : Story) (texts : List (List ℕ)) (last : Shot) (events : List Event) (lent : List (List ℕ)) (old new : Option (List ℕ)) → last ≡ shot (state core) (head (state core)) → events ≡ core.events
    → lent ≡ texts → Appends old new (written_report last.design events lent) → Appends old new (written_report (head_design core.opening core.events) core.events texts)
lent_whole core texts last events lent old new is same all written = subst (Appends old new) (lent_text core texts last events lent is same all) written

pub lent_front : (core : Story) (texts : List (List ℕ)) (last : Shot) (events : List Event) (lent : List (List ℕ)) (old new : Option (List ℕ)) → last ≡ shot (state core) (head (state core)) → events ≡ core.events
    → lent ≡ texts → AppendsFront old new (written_report last.design events lent) → AppendsFront old new (written_report (head_design core.opening core.events) core.events texts)
lent_front core texts last events lent old new is same all written = subst (AppendsFront old new) (lent_text core texts last events lent is same all) written
