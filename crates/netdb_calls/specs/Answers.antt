-- What each call answers.
use Rattle.std.specs.Prelude.{◌≡◌, ◌≢◌, ◌⊎◌, ℕ, List, [], ◌∷◌, length, Option, Some, None, Result, Ok, Err}
use Rattle.std.specs.Option.{option_and_then, option_map, option_map_or}
use Rattle.netlist_schema.specs.Design.{Design}
use Rattle.netlist_schema.specs.Types.{Object}
use Rattle.netlist_pages.specs.declared.memory.NoMemory.{NoMemory}
use Rattle.edit_rules_spec.specs.declared.reply.Reply.{Reply}
use Rattle.db_version.specs.Shot.{Shot}
use Rattle.db_core.specs.declared.errors.CollectError.{CollectError}
use Rattle.db_core.specs.declared.errors.CollectError.TheVariants as collect
use Rattle.db_core.specs.declared.errors.CommitError.{CommitError}
use Rattle.db_core.specs.declared.errors.CommitError.TheVariants as commit
use Rattle.db_core.specs.declared.errors.PinAtError.{PinAtError}
use Rattle.db_core.specs.declared.errors.PinAtError.TheVariants as pin_at
use Rattle.db_core.specs.declared.errors.PinError.{PinError}
use Rattle.db_core.specs.declared.errors.PinError.TheVariants as pin
use Rattle.script_spec.specs.Texts.{conflict_words, line, reply_text}
use Rattle.flat_lines_spec.specs.Lines.{item_line}
use Rattle.occ_walk.specs.declared.walk.WalkError.{WalkError}
use Rattle.occ_walk.specs.declared.walk.WalkError.TheVariants as walk
use Rattle.netdb_desk.specs.Calls.{AbandonsSeat, BeginsSeat, CollectsSeat, CommitsSeat, PinsSeat, PinsSeatAt, ReleasesSeat, RunsSeat, last_reply, seen_at}
use Rattle.netdb_desk.specs.Seats.{DeskFacts, held_at, pin_of}
use Rattle.netdb_desk.specs.declared.held.WrongUse.{WrongUse}
use Rattle.netdb_desk.specs.declared.line.LineError.{LineError}
use Rattle.netdb_desk.specs.declared.line.LineError.TheVariants as said
use Rattle.netdb_questions.specs.Facts.{QuestionFacts}
use Rattle.netdb_view.specs.Facts.{ViewFacts}
use Rattle.netdb_view.specs.Fields.{field_text}
use Rattle.netdb_view.specs.Walking.{Begins, BeginsAt, StepsOn}
use Rattle.netdb_view.specs.declared.view.BeginError.{BeginError}
use Rattle.netdb_view.specs.declared.view.BeginError.TheVariants as begin
use Rattle.netdb_view.specs.declared.view.Step.TheVariants as step
use Rattle.netdb_calls.specs.Fields.{field_at}
use Rattle.question_calls.specs.Questions.{AnswersQuestion}
use Rattle.call_status.specs.Telling.{only, told}
use Rattle.netdb_calls.specs.Texts.{head_design}
use Rattle.netdb_calls.specs.declared.calls.Call.{Call}
use Rattle.netdb_calls.specs.declared.calls.Call.TheVariants as asking
use Rattle.netdb_calls.specs.declared.calls.DeskCall.{DeskCall}
use Rattle.netdb_calls.specs.declared.calls.DeskCall.TheVariants as asks
use Rattle.question_calls.specs.declared.calls.QuestionCall.{QuestionCall}
use Rattle.call_status.specs.declared.told.Told.{Told}
use Rattle.netdb_calls.specs.declared.calls.ViewCall.{ViewCall}
use Rattle.netdb_calls.specs.declared.calls.ViewCall.TheVariants as views
use Rattle.netdb_calls.specs.declared.opened.Inside.{Inside}
use Rattle.netdb_calls.specs.declared.opened.Inside.TheVariants.{Desk, Questions, Refused, View}
use Rattle.netdb_calls.specs.declared.opened.Opened.{Opened}
use Rattle.call_status.specs.declared.status.Status.{Status}
use Rattle.call_status.specs.declared.status.Status.TheVariants as says

-- ---- the answer of each call of a desk, as a status and a number

abbrev pub told_of_pin : Result (Result ℕ PinError) WrongUse → Told
told_of_pin (Ok (Ok version)) = told says.Done version
told_of_pin (Ok (Err pin.LogFull)) = only says.LogFull
told_of_pin (Ok (Err pin.NoMemory)) = only says.NoMemory
told_of_pin (Err wrong) = only says.WrongUse

abbrev pub told_of_pin_at : Result (Result ℕ PinAtError) WrongUse → Told
told_of_pin_at (Ok (Ok version)) = told says.Done version
told_of_pin_at (Ok (Err pin_at.LogFull)) = only says.LogFull
told_of_pin_at (Ok (Err (pin_at.NoVersion last))) = told says.NoVersion last
told_of_pin_at (Ok (Err (pin_at.Gone least))) = told says.Gone least
told_of_pin_at (Ok (Err pin_at.NoMemory)) = only says.NoMemory
told_of_pin_at (Err wrong) = only says.WrongUse

abbrev pub told_of_begin : Result (Result (Unit {0}) NoMemory) WrongUse → Told
told_of_begin (Ok (Ok done)) = only says.Done
told_of_begin (Ok (Err error)) = only says.NoMemory
told_of_begin (Err wrong) = only says.WrongUse

abbrev pub told_of_done : Result (Unit {0}) WrongUse → Told
told_of_done (Ok done) = only says.Done
told_of_done (Err wrong) = only says.WrongUse

abbrev pub told_of_collect : Result (Result ℕ CollectError) WrongUse → Told
told_of_collect (Ok (Ok dropped)) = told says.Done dropped
told_of_collect (Ok (Err collect.LogFull)) = only says.LogFull
told_of_collect (Ok (Err collect.NoMemory)) = only says.NoMemory
told_of_collect (Err wrong) = only says.WrongUse

-- ---- lines and commits, which have texts

-- the text is the line of the reply; or there was no memory for it, and it is empty
abbrev pub SaysLast : Option Reply → List ℕ → Told → Type 0
SaysLast (Some reply) text answer = ((answer ≡ only says.Done) × (text ≡ line (reply_text reply ∷ []))) ⊎ ((answer ≡ only says.TextLost) × (text ≡ []))
SaysLast None text answer = (answer ≡ only says.TextLost) × (text ≡ [])

abbrev pub told_of_line : LineError → Told
told_of_line said.BadLine = only says.BadLine
told_of_line said.TooLong = only says.TooLarge
told_of_line said.NoMemory = only says.NoMemory

-- the text of a line that was run; one that was not leaves the text
abbrev pub SaysRun : Result (Result (Unit {0}) LineError) WrongUse → Option Reply → List ℕ → List ℕ → Told → Type 0
SaysRun (Ok (Ok done)) reply before after answer = SaysLast reply after answer
SaysRun (Ok (Err error)) reply before after answer = (answer ≡ told_of_line error) × (after ≡ before)
SaysRun (Err wrong) reply before after answer = (answer ≡ only says.WrongUse) × (after ≡ before)

abbrev pub HasRun : ℕ → List ℕ → DeskFacts → DeskFacts → List ℕ → List ℕ → Told → Type 0
HasRun seat text old new before after answer =
    (r : Result (Result (Unit {0}) LineError) WrongUse) × RunsSeat old new seat text r × SaysRun r (last_reply (held_at new seat)) before after answer

-- the text is the line of the conflict, by the names of the design; or there was no memory for it, and it is empty
abbrev pub SaysClash : Design → Object → ℕ → List ℕ → Type 0
SaysClash d object version text = (text ≡ line (conflict_words d object version)) ⊎ (text ≡ [])

-- of a commit that was refused only a conflict has a text, by the names of the last version
abbrev pub SaysRefused : CommitError → Design → List ℕ → List ℕ → Told → Type 0
SaysRefused commit.LogFull d before after answer = (answer ≡ only says.LogFull) × (after ≡ before)
SaysRefused (commit.Conflict object version) d before after answer = (answer ≡ told says.Conflict version) × SaysClash d object version after
SaysRefused commit.NoMemory d before after answer = (answer ≡ only says.NoMemory) × (after ≡ before)

abbrev pub SaysCommit : Result (Result ℕ CommitError) WrongUse → Design → List ℕ → List ℕ → Told → Type 0
SaysCommit (Ok (Ok version)) d before after answer = (answer ≡ told says.Done version) × (after ≡ before)
SaysCommit (Ok (Err error)) d before after answer = SaysRefused error d before after answer
SaysCommit (Err wrong) d before after answer = (answer ≡ only says.WrongUse) × (after ≡ before)

abbrev pub HasCommitted : ℕ → DeskFacts → DeskFacts → List ℕ → List ℕ → Told → Type 0
HasCommitted seat old new before after answer =
    (r : Result (Result ℕ CommitError) WrongUse) × CommitsSeat old new seat r × SaysCommit r (head_design new) before after answer

-- ---- calls on a database

abbrev pub AnswersDesk : DeskCall → DeskFacts → DeskFacts → List ℕ → List ℕ → Told → Type 0
AnswersDesk (asks.Pin seat) old new before after answer =
    (after ≡ before) × ((r : Result (Result ℕ PinError) WrongUse) × PinsSeat old new seat r × (answer ≡ told_of_pin r))
AnswersDesk (asks.PinAt seat wanted) old new before after answer =
    (after ≡ before) × ((r : Result (Result ℕ PinAtError) WrongUse) × PinsSeatAt old new seat wanted r × (answer ≡ told_of_pin_at r))
AnswersDesk (asks.Begin seat) old new before after answer =
    (after ≡ before) × ((r : Result (Result (Unit {0}) NoMemory) WrongUse) × BeginsSeat old new seat r × (answer ≡ told_of_begin r))
AnswersDesk (asks.Line seat text) old new before after answer = HasRun seat text.now old new before after answer
AnswersDesk (asks.Commit seat) old new before after answer = HasCommitted seat old new before after answer
AnswersDesk (asks.Abandon seat) old new before after answer =
    (after ≡ before) × ((r : Result (Unit {0}) WrongUse) × AbandonsSeat old new seat r × (answer ≡ told_of_done r))
AnswersDesk (asks.Release seat) old new before after answer =
    (after ≡ before) × ((r : Result (Unit {0}) WrongUse) × ReleasesSeat old new seat r × (answer ≡ told_of_done r))
AnswersDesk (asks.Collect seat) old new before after answer =
    (after ≡ before) × ((r : Result (Result ℕ CollectError) WrongUse) × CollectsSeat old new seat r × (answer ≡ told_of_collect r))

-- it is the call of the desk that was opened; where none was, nothing was changed
pub record OnDesk (call : DeskCall) (old : DeskFacts) (before : List ℕ) (new : Opened) (answer : Told) : Type 0 where
  pub desk : DeskFacts
  pub inside : new.inside ≡ Desk desk
  pub answers : AnswersDesk call old desk before new.text.items answer

pub record IsWrong (old new : Opened) (answer : Told) : Type 0 where
  pub same : new ≡ old
  pub answer_is : answer ≡ only says.WrongUse

abbrev pub AskedDesk : DeskCall → Inside → Opened → Opened → Told → Type 0
AskedDesk call (Desk desk) old new answer = OnDesk call desk old.text.items new answer
AskedDesk call (View view) old new answer = IsWrong old new answer
AskedDesk call (Questions questions) old new answer = IsWrong old new answer
AskedDesk call Refused old new answer = IsWrong old new answer

abbrev pub AsksDesk : DeskCall → Opened → Opened → Told → Type 0
AsksDesk call old new answer = AskedDesk call old.inside old new answer

-- ---- calls on a view

abbrev pub told_of_walk : Result (Unit {0}) WalkError → Told
told_of_walk (Ok done) = only says.Done
told_of_walk (Err walk.NoTop) = only says.NoTop
told_of_walk (Err walk.NoMemory) = only says.NoMemory

abbrev pub told_of_begin_at : Result (Unit {0}) BeginError → Told
told_of_begin_at (Ok done) = only says.Done
told_of_begin_at (Err begin.NoTop) = only says.NoTop
told_of_begin_at (Err begin.NoPath) = only says.NoPath
told_of_begin_at (Err begin.NoMemory) = only says.NoMemory

-- the text is the line of the item that is shown, or nothing where none is; or there was no memory for it, and it is empty
abbrev pub SaysLine : ViewFacts → List ℕ → Told → Type 0
SaysLine view text answer =
    ((answer ≡ only says.Done) × (text ≡ option_map_or (item_line view.version.design) view.shown [])) ⊎ ((answer ≡ only says.TextLost) × (text ≡ []))

-- the next item was shown, and its line said; or no item was, and the text stays
abbrev pub HasShown : ViewFacts → ViewFacts → List ℕ → List ℕ → Told → Type 0
HasShown old new before after answer =
    (StepsOn old new step.Shown × SaysLine new after answer)
    ⊎ (StepsOn old new step.End × (answer ≡ only says.End) × (after ≡ before))
    ⊎ (StepsOn old new step.NoWalk × (answer ≡ only says.WrongUse) × (after ≡ before))
    ⊎ (StepsOn old new step.NoMemory × (answer ≡ only says.NoMemory) × (after ≡ before))

-- the field of that number of the item that is shown, where there is one
abbrev pub field_shown : ViewFacts → ℕ → Option (List ℕ)
field_shown view number = option_and_then (λ which. option_and_then (λ item. field_text view.version.design item which) view.shown) (field_at number)

-- the text is that field; there is none; or there is one, and no memory for it. Then the text is empty
abbrev pub SaysField : ViewFacts → ℕ → List ℕ → Told → Type 0
SaysField view number text answer =
    ((answer ≡ only says.Done) × (field_shown view number ≡ Some text))
    ⊎ ((answer ≡ only says.NoField) × (field_shown view number ≡ None) × (text ≡ []))
    ⊎ ((answer ≡ only says.NoMemory) × (field_shown view number ≢ None) × (text ≡ []))

abbrev pub AnswersView : ViewCall → ViewFacts → ViewFacts → List ℕ → List ℕ → Told → Type 0
AnswersView views.Version old new before after answer = (new ≡ old) × (after ≡ before) × (answer ≡ told says.Done old.version.version)
AnswersView views.Walk old new before after answer = (after ≡ before) × ((r : Result (Unit {0}) WalkError) × Begins old new r × (answer ≡ told_of_walk r))
AnswersView (views.WalkAt path) old new before after answer =
    (after ≡ before) × ((r : Result (Unit {0}) BeginError) × BeginsAt old new path.now r × (answer ≡ told_of_begin_at r))
AnswersView views.Next old new before after answer = HasShown old new before after answer
AnswersView (views.Field number) old new before after answer = (new ≡ old) × SaysField old number after answer

pub record OnView (call : ViewCall) (old : ViewFacts) (before : List ℕ) (new : Opened) (answer : Told) : Type 0 where
  pub view : ViewFacts
  pub inside : new.inside ≡ View view
  pub answers : AnswersView call old view before new.text.items answer

abbrev pub AskedView : ViewCall → Inside → Opened → Opened → Told → Type 0
AskedView call (View view) old new answer = OnView call view old.text.items new answer
AskedView call (Desk desk) old new answer = IsWrong old new answer
AskedView call (Questions questions) old new answer = IsWrong old new answer
AskedView call Refused old new answer = IsWrong old new answer

abbrev pub AsksView : ViewCall → Opened → Opened → Told → Type 0
AsksView call old new answer = AskedView call old.inside old new answer

-- ---- questions

pub record OnQuestions (call : QuestionCall) (old : QuestionFacts) (before : List ℕ) (new : Opened) (answer : Told) : Type 0 where
  pub questions : QuestionFacts
  pub inside : new.inside ≡ Questions questions
  pub answers : AnswersQuestion call old questions before new.text.items answer

abbrev pub AskedQuestions : QuestionCall → Inside → Opened → Opened → Told → Type 0
AskedQuestions call (Questions questions) old new answer = OnQuestions call questions old.text.items new answer
AskedQuestions call (Desk desk) old new answer = IsWrong old new answer
AskedQuestions call (View view) old new answer = IsWrong old new answer
AskedQuestions call Refused old new answer = IsWrong old new answer

abbrev pub AsksQuestion : QuestionCall → Opened → Opened → Told → Type 0
AsksQuestion call old new answer = AskedQuestions call old.inside old new answer

-- ---- any call

abbrev pub Asks : Call → Opened → Opened → Told → Type 0
Asks (asking.Desk call) old new answer = AsksDesk call old new answer
Asks (asking.View call) old new answer = AsksView call old new answer
Asks (asking.Question call) old new answer = AsksQuestion call old new answer
Asks asking.Length old new answer = (new ≡ old) × (answer ≡ told says.Done (length old.text.items))

-- ---- a view that is opened

-- a view of the version that the seat holds, with no walk and no text
pub record IsViewOf (desk : DeskFacts) (seat : ℕ) (made : Opened) : Type 0 where
  pub view : ViewFacts
  pub inside : made.inside ≡ View view
  pub text : made.text.items ≡ []
  pub seen : Some view.version ≡ option_map seen_at (pin_of (held_at desk seat))
  pub left : view.left ≡ None
  pub shown : view.shown ≡ None

abbrev pub ViewsDesk : DeskFacts → ℕ → Result Opened Status → Type 0
ViewsDesk desk seat (Ok made) = IsViewOf desk seat made
ViewsDesk desk seat (Err says.NoMemory) = pin_of (held_at desk seat) ≢ None
ViewsDesk desk seat (Err says.WrongUse) = pin_of (held_at desk seat) ≡ None
ViewsDesk desk seat (Err other) = ⊥

abbrev pub ViewsInside : Inside → ℕ → Result Opened Status → Type 0
ViewsInside (Desk desk) seat result = ViewsDesk desk seat result
ViewsInside (View view) seat result = result ≡ Err says.WrongUse
ViewsInside (Questions questions) seat result = result ≡ Err says.WrongUse
ViewsInside Refused seat result = result ≡ Err says.WrongUse

abbrev pub OpensView : Opened → ℕ → Result Opened Status → Type 0
OpensView opened seat result = ViewsInside opened.inside seat result

-- ---- questions that are opened

-- of the version that the seat holds, with no list and no text
pub record AreQuestionsOf (desk : DeskFacts) (seat : ℕ) (made : Opened) : Type 0 where
  pub questions : QuestionFacts
  pub inside : made.inside ≡ Questions questions
  pub text : made.text.items ≡ []
  pub seen : Some questions.version ≡ option_map seen_at (pin_of (held_at desk seat))
  pub left : questions.left ≡ None

-- where its design has no top, there are none, whether there is memory or not
abbrev pub QuestionsOnDesk : DeskFacts → ℕ → Result Opened Status → Type 0
QuestionsOnDesk desk seat (Ok made) = AreQuestionsOf desk seat made
QuestionsOnDesk desk seat (Err says.NoTop) = (seen : Shot) × (Some seen ≡ option_map seen_at (pin_of (held_at desk seat))) × (seen.design.top ≡ None)
QuestionsOnDesk desk seat (Err says.NoMemory) = (seen : Shot) × (Some seen ≡ option_map seen_at (pin_of (held_at desk seat))) × (seen.design.top ≢ None)
QuestionsOnDesk desk seat (Err says.WrongUse) = pin_of (held_at desk seat) ≡ None
QuestionsOnDesk desk seat (Err other) = ⊥

abbrev pub QuestionsInside : Inside → ℕ → Result Opened Status → Type 0
QuestionsInside (Desk desk) seat result = QuestionsOnDesk desk seat result
QuestionsInside (View view) seat result = result ≡ Err says.WrongUse
QuestionsInside (Questions questions) seat result = result ≡ Err says.WrongUse
QuestionsInside Refused seat result = result ≡ Err says.WrongUse

abbrev pub OpensQuestions : Opened → ℕ → Result Opened Status → Type 0
OpensQuestions opened seat result = QuestionsInside opened.inside seat result
