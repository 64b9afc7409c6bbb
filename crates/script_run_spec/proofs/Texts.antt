-- The transcripts of a report.
use Rattle.std.proofs.Common.{◌≡◌, ◌+◌, ℕ, List, [], ◌∷◌, ◌++◌, map, refl, ap}
use Rattle.std.specs.Prelude.{codes}
use Rattle.netlist_schema.specs.Design.{Design}
use Rattle.edif_spec.specs.Arranged.{canonical_text}
use Rattle.db_spec.specs.declared.event.Event.{Event}
use Rattle.script_spec.specs.Report.{SessionResult, report, script_texts, transcript, head_design}
use Rattle.script_spec.specs.Texts.{line, event_texts}
use Rattle.script_run_spec.specs.Written.{numbered_text, numbered_texts, written_report}

-- the transcripts of results
abbrev pub transcripts : Design → List Event → List SessionResult → List (List ℕ)
transcripts d history results = map (λ came. transcript d history came.said) results

scripts_are : (d : Design) (history : List Event) (k : ℕ) (results : List SessionResult) → script_texts d history k results ≡ numbered_texts k (transcripts d history results)
scripts_are d history k [] = refl
scripts_are d history k (came ∷ results) = ap (λ rest. numbered_text k (transcript d history came.said) ++ rest) (scripts_are d history (k + 1) results)

-- the report of a history is what is written of its last version, its events and the transcripts of its results
pub report_is : (d : Design) (history : List Event) (results : List SessionResult) → report d history results ≡ written_report (head_design d history) history (transcripts d history results)
report_is d history results =
    let last = head_design d history in
    ap (λ scripts. line (codes "history" ∷ []) ++ event_texts last 0 history ++ scripts ++ line (codes "design" ∷ []) ++ canonical_text last) (scripts_are d history 0 results)
