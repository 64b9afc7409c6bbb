-- A report is its events and what stands behind them.
use Rattle.std.proofs.Common.{◌≡◌, ◌∙◌, ℕ, Bool, List, [], ◌∷◌, ◌++◌, ap, sym, append_assoc}
use Rattle.std.specs.Prelude.{◌↔◌, IsTrue, codes}
use Rattle.std.proofs.lemmas.List.{append_cancel_left}
use Rattle.netlist_schema.specs.Design.{Design}
use Rattle.edif_spec.specs.Arranged.{canonical_text}
use Rattle.db_spec.specs.declared.event.Event.{Event}
use Rattle.db_core.specs.Story.{Story}
use Rattle.script_spec.specs.Report.{head_design}
use Rattle.script_spec.specs.Texts.{event_texts, line}
use Rattle.script_run_spec.specs.Written.{numbered_texts, written_report}
use Rattle.report_parts.specs.Parts.{rest_text}
use Rattle.history_check.specs.Follow.{IsBehind}

written_parts : (d : Design) (history : List Event) (texts : List (List ℕ))
    → written_report d history texts ≡ line (codes "history" ∷ []) ++ (event_texts d 0 history ++ rest_text d texts)
written_parts d history texts =
    let h = line (codes "history" ∷ []) in
    let e = event_texts d 0 history in
    let n = numbered_texts 0 texts in
    let l = line (codes "design" ∷ []) in
    let c = canonical_text d in
    ap (λ (z : List ℕ). (z ++ l) ++ c) (append_assoc h e n)
    ∙ ap (λ (z : List ℕ). z ++ c) (append_assoc h (e ++ n) l)
    ∙ append_assoc h ((e ++ n) ++ l) c
    ∙ ap (λ (z : List ℕ). h ++ (z ++ c)) (append_assoc e n l)
    ∙ ap (λ (z : List ℕ). h ++ z) (append_assoc e (n ++ l) c)
    ∙ ap (λ (z : List ℕ). h ++ (e ++ z)) (append_assoc n l c)

-- where the rest is compared, the whole is
pub whole_same : (story : Story) (texts : List (List ℕ)) (report rest : List ℕ) (r : Bool) → IsBehind story report rest → IsTrue r ↔ (rest ≡ rest_text (head_design story.opening story.events) texts)
    → IsTrue r ↔ (report ≡ written_report (head_design story.opening story.events) story.events texts)
whole_same story texts report rest r behind iff =
    let d = head_design story.opening story.events in
    let h = line (codes "history" ∷ []) in
    let e = event_texts d 0 story.events in
    let parts = written_parts d story.events texts in (
      λ yes. behind ∙ ap (λ (z : List ℕ). h ++ (e ++ z)) (iff.0 yes) ∙ sym parts,
      λ whole. iff.1 (append_cancel_left e rest (rest_text d texts) (append_cancel_left h (e ++ rest) (e ++ rest_text d texts) (sym behind ∙ whole ∙ parts))),
    )
