-- A worked run: two scripts write two cells while a third walks the first version.
use Rattle.std.specs.Prelude.{ℕ, List, [], ◌∷◌, ◌++◌, None, codes}
use Rattle.edif_spec.specs.Arranged.{canonical_text}
use Rattle.edit_spec.specs.declared.ops.Op.{Op}
use Rattle.edit_spec.specs.declared.ops.Op.TheVariants.{AddNet}
use Rattle.edit_rules_spec.specs.declared.reply.Reply.TheVariants.{Done}
use Rattle.db_spec.specs.Example.{event, in_w}
use Rattle.db_spec.specs.declared.event.Answer.TheVariants as answer
use Rattle.db_spec.specs.declared.event.Call.TheVariants as call
use Rattle.db_spec.specs.declared.event.Event.{Event}
use Rattle.script_spec.specs.declared.script.Step.{Step}
use Rattle.script_spec.specs.declared.script.Step.TheVariants.{Begin, Run, Commit, Pin, Walk, Release}
use Rattle.script_spec.specs.Example.{text_of, at_line, came, board}
use Rattle.script_spec.specs.Report.{Prints, SessionResult, head_design}
use Rattle.script_spec.specs.ScriptText.{IsScriptText}
use Rattle.script_spec.specs.Session.{Began, Replied, Committed, Pinned, Walked, Released, Whole}

-- a net n in A, a net m in B
abbrev pub n_in_a : List Op
n_in_a = AddNet (in_w (codes "A")) (codes "n") ∷ []

abbrev pub m_in_b : List Op
m_in_b = AddNet (in_w (codes "B")) (codes "m") ∷ []

abbrev pub writes_a : List Step
writes_a = Begin 0 ∷ Run (AddNet (in_w (codes "A")) (codes "n")) ∷ Commit ∷ []

abbrev pub writes_b : List Step
writes_b = Begin 0 ∷ Run (AddNet (in_w (codes "B")) (codes "m")) ∷ Commit ∷ []

abbrev pub walks : List Step
walks = Pin ∷ Walk None ∷ Release ∷ []

abbrev pub scripts : List (List Step)
scripts = writes_a ∷ writes_b ∷ walks ∷ []

abbrev pub parallel_history : List Event
parallel_history =
    event 2 call.Pin (answer.Pinned 0 0)
    ∷ event 0 call.Pin (answer.Pinned 1 0)
    ∷ event 1 call.Pin (answer.Pinned 2 0)
    ∷ event 1 (call.Commit 2 m_in_b) (answer.Committed 1 (Done ∷ []))
    ∷ event 1 (call.Release 2) answer.Released
    ∷ event 0 (call.Commit 1 n_in_a) (answer.Committed 2 (Done ∷ []))
    ∷ event 0 (call.Release 1) answer.Released
    ∷ event 2 (call.Release 0) answer.Released
    ∷ []

abbrev pub results : List SessionResult
results =
    came (Began 0 ∷ Replied Done ∷ Committed 2 ∷ []) Whole
    ∷ came (Began 0 ∷ Replied Done ∷ Committed 1 ∷ []) Whole
    ∷ came (Pinned 0 ∷ Walked 0 None ∷ Released ∷ []) Whole
    ∷ []

-- the lines of the report before the text of the last version
abbrev pub parallel_lines : List ℕ
parallel_lines = text_of (
    codes "history"
    ∷ codes "0 caller 2 pin -> pin 0 version 0"
    ∷ codes "1 caller 0 pin -> pin 1 version 0"
    ∷ codes "2 caller 1 pin -> pin 2 version 0"
    ∷ codes "3 caller 1 commit pin 2 -> committed 1"
    ∷ codes " add-net w B m -> done"
    ∷ codes "4 caller 1 release pin 2 -> released"
    ∷ codes "5 caller 0 commit pin 1 -> committed 2"
    ∷ codes " add-net w A n -> done"
    ∷ codes "6 caller 0 release pin 1 -> released"
    ∷ codes "7 caller 2 release pin 0 -> released"
    ∷ codes "script 0"
    ∷ codes "begin 0"
    ∷ codes "done"
    ∷ codes "committed 2"
    ∷ codes "script 1"
    ∷ codes "begin 0"
    ∷ codes "done"
    ∷ codes "committed 1"
    ∷ codes "script 2"
    ∷ codes "pin 0"
    ∷ codes "inst / w T"
    ∷ codes "inst /a w A"
    ∷ codes "inst /b w B"
    ∷ codes "end"
    ∷ codes "released"
    ∷ codes "design"
    ∷ [])

-- the text of script 0
abbrev pub text_a : List ℕ
text_a = text_of (codes "begin" ∷ codes "add-net w A n" ∷ codes "commit" ∷ [])

abbrev pub IsScriptA : Type 0
IsScriptA = IsScriptText text_a (record { lines = at_line 1 (Begin 0) ∷ at_line 2 (Run (AddNet (in_w (codes "A")) (codes "n"))) ∷ at_line 3 Commit ∷ []; last = 3 })

-- the three scripts fit this legal history, and its report is these lines and the text of the last version
pub record IsParallelRun : Type 0 where
  pub prints : Prints board scripts (parallel_lines ++ canonical_text (head_design board parallel_history)) parallel_history
  pub said : IsScriptA
