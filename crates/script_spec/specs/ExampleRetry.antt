-- A worked run: two scripts set one property, and the second to commit is run again.
use Rattle.std.specs.Prelude.{ℕ, List, [], ◌∷◌, ◌++◌, None, pos, codes}
use Rattle.netlist_schema.specs.declared.property.Value.TheVariants.{Integer}
use Rattle.edif_spec.specs.Arranged.{canonical_text}
use Rattle.edit_spec.specs.declared.ops.Op.{Op}
use Rattle.edit_spec.specs.declared.ops.Op.TheVariants.{SetProp}
use Rattle.edit_rules_spec.specs.declared.reply.Reply.TheVariants.{Done}
use Rattle.edit_spec.specs.declared.ops.Target.TheVariants as targets
use Rattle.flat_spec.specs.ExampleParts.{named, id_of}
use Rattle.db_spec.specs.Example.{event, in_w}
use Rattle.db_spec.specs.declared.event.Answer.TheVariants as answer
use Rattle.db_spec.specs.declared.event.Call.TheVariants as call
use Rattle.db_spec.specs.declared.event.Event.{Event}
use Rattle.script_spec.specs.declared.script.Step.{Step}
use Rattle.script_spec.specs.declared.script.Step.TheVariants.{Begin, Run, Commit}
use Rattle.script_spec.specs.Example.{text_of, came, board}
use Rattle.script_spec.specs.Objects.{face_object}
use Rattle.script_spec.specs.Report.{Prints, SessionResult, head_design}
use Rattle.script_spec.specs.Session.{Began, Replied, Committed, Conflict, Whole}

-- sets the property K of A to a number
abbrev pub set_k : ℕ → Op
set_k n = SetProp (in_w (codes "A")) targets.Whole (record { key = named (codes "K"); value = Integer (pos n); owner = None })

abbrev pub sets : ℕ → List Step
sets n = Begin 1 ∷ Run (set_k n) ∷ Commit ∷ []

abbrev pub scripts : List (List Step)
scripts = sets 1 ∷ sets 2 ∷ []

abbrev pub retry_history : List Event
retry_history =
    event 0 call.Pin (answer.Pinned 0 0)
    ∷ event 1 call.Pin (answer.Pinned 1 0)
    ∷ event 1 (call.Commit 1 (set_k 2 ∷ [])) (answer.Committed 1 (Done ∷ []))
    ∷ event 1 (call.Release 1) answer.Released
    ∷ event 0 (call.Commit 0 (set_k 1 ∷ [])) (answer.Conflict (face_object (id_of 0 0)) 1)
    ∷ event 0 (call.Release 0) answer.Released
    ∷ event 0 call.Pin (answer.Pinned 2 1)
    ∷ event 0 (call.Commit 2 (set_k 1 ∷ [])) (answer.Committed 2 (Done ∷ []))
    ∷ event 0 (call.Release 2) answer.Released
    ∷ []

abbrev pub results : List SessionResult
results =
    came (Began 0 ∷ Replied Done ∷ Conflict (face_object (id_of 0 0)) 1 ∷ Began 1 ∷ Replied Done ∷ Committed 2 ∷ []) Whole
    ∷ came (Began 0 ∷ Replied Done ∷ Committed 1 ∷ []) Whole
    ∷ []

-- the lines of the report before the text of the last version
abbrev pub retry_lines : List ℕ
retry_lines = text_of (
    codes "history"
    ∷ codes "0 caller 0 pin -> pin 0 version 0"
    ∷ codes "1 caller 1 pin -> pin 1 version 0"
    ∷ codes "2 caller 1 commit pin 1 -> committed 1"
    ∷ codes " set-prop w A cell K int 2 -> done"
    ∷ codes "3 caller 1 release pin 1 -> released"
    ∷ codes "4 caller 0 commit pin 0 -> conflict interface w A version 1"
    ∷ codes " set-prop w A cell K int 1"
    ∷ codes "5 caller 0 release pin 0 -> released"
    ∷ codes "6 caller 0 pin -> pin 2 version 1"
    ∷ codes "7 caller 0 commit pin 2 -> committed 2"
    ∷ codes " set-prop w A cell K int 1 -> done"
    ∷ codes "8 caller 0 release pin 2 -> released"
    ∷ codes "script 0"
    ∷ codes "begin 0"
    ∷ codes "done"
    ∷ codes "conflict interface w A version 1"
    ∷ codes "begin 1"
    ∷ codes "done"
    ∷ codes "committed 2"
    ∷ codes "script 1"
    ∷ codes "begin 0"
    ∷ codes "done"
    ∷ codes "committed 1"
    ∷ codes "design"
    ∷ [])

-- both scripts fit this legal history, and its report is these lines and the text of the last version
abbrev pub IsRetriedRun : Type 0
IsRetriedRun = Prints board scripts (retry_lines ++ canonical_text (head_design board retry_history)) retry_history
