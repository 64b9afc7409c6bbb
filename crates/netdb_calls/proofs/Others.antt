-- What is answered where what was opened is not of the kind that a call wants.
use Rattle.std.proofs.Common.{◌≡◌, List, ℕ, Option, Result, Err, refl}
use Rattle.netdb_desk.specs.Seats.{DeskFacts}
use Rattle.netdb_questions.specs.Facts.{QuestionFacts}
use Rattle.netdb_view.specs.Facts.{ViewFacts}
use Rattle.netdb_calls.specs.Answers.{AskedDesk, AskedQuestions, AskedView, IsWrong, QuestionsInside, ViewsInside}
use Rattle.netdb_calls.specs.Texts.{WritesOf, WritesReport}
use Rattle.netdb_calls.specs.declared.calls.DeskCall.{DeskCall}
use Rattle.question_calls.specs.declared.calls.QuestionCall.{QuestionCall}
use Rattle.call_status.specs.declared.told.Told.{Told}
use Rattle.netdb_calls.specs.declared.calls.ViewCall.{ViewCall}
use Rattle.netdb_calls.specs.declared.opened.Inside.{Inside}
use Rattle.netdb_calls.specs.declared.opened.Inside.TheVariants.{Desk, Questions, Refused, View}
use Rattle.netdb_calls.specs.declared.opened.Opened.{Opened}
use Rattle.call_status.specs.declared.status.Status.{Status}
use Rattle.call_status.specs.declared.status.Status.TheVariants as says
use Rattle.netdb_calls.specs.declared.texts.Kind.{Kind}

pub no_desk_asked : (call : DeskCall) (i : Inside) (old new : Opened) (answer : Told) → ((d : DeskFacts) → ¬ (i ≡ Desk d)) → IsWrong old new answer → AskedDesk call i old new answer
no_desk_asked call (Desk d) old new answer never wrong = absurd (never d refl)
no_desk_asked call (View v) old new answer never wrong = wrong
no_desk_asked call (Questions q) old new answer never wrong = wrong
no_desk_asked call Refused old new answer never wrong = wrong

pub no_view_asked : (call : ViewCall) (i : Inside) (old new : Opened) (answer : Told) → ((v : ViewFacts) → ¬ (i ≡ View v)) → IsWrong old new answer → AskedView call i old new answer
no_view_asked call (Desk d) old new answer never wrong = wrong
no_view_asked call (View v) old new answer never wrong = absurd (never v refl)
no_view_asked call (Questions q) old new answer never wrong = wrong
no_view_asked call Refused old new answer never wrong = wrong

pub no_questions_asked : (call : QuestionCall) (i : Inside) (old new : Opened) (answer : Told) → ((q : QuestionFacts) → ¬ (i ≡ Questions q)) → IsWrong old new answer
    → AskedQuestions call i old new answer
no_questions_asked call (Desk d) old new answer never wrong = wrong
no_questions_asked call (View v) old new answer never wrong = wrong
no_questions_asked call (Questions q) old new answer never wrong = absurd (never q refl)
no_questions_asked call Refused old new answer never wrong = wrong

pub no_view_written : (i : Inside) (kind : Kind) (told : Option (List ℕ)) → ((v : ViewFacts) → ¬ (i ≡ View v)) → WritesOf i kind told told says.WrongUse
no_view_written (Desk d) kind told never = (refl, refl)
no_view_written (View v) kind told never = absurd (never v refl)
no_view_written (Questions q) kind told never = (refl, refl)
no_view_written Refused kind told never = (refl, refl)

pub no_desk_written : (i : Inside) (told : Option (List ℕ)) → ((d : DeskFacts) → ¬ (i ≡ Desk d)) → WritesReport i told told says.WrongUse
no_desk_written (Desk d) told never = absurd (never d refl)
no_desk_written (View v) told never = (refl, refl)
no_desk_written (Questions q) told never = (refl, refl)
no_desk_written Refused told never = (refl, refl)

pub no_desk_viewed : (i : Inside) (seat : ℕ) (r : Result Opened Status) → ((d : DeskFacts) → ¬ (i ≡ Desk d)) → r ≡ Err says.WrongUse → ViewsInside i seat r
no_desk_viewed (Desk d) seat r never wrong = absurd (never d refl)
no_desk_viewed (View v) seat r never wrong = wrong
no_desk_viewed (Questions q) seat r never wrong = wrong
no_desk_viewed Refused seat r never wrong = wrong

pub no_desk_questioned : (i : Inside) (seat : ℕ) (r : Result Opened Status) → ((d : DeskFacts) → ¬ (i ≡ Desk d)) → r ≡ Err says.WrongUse → QuestionsInside i seat r
no_desk_questioned (Desk d) seat r never wrong = absurd (never d refl)
no_desk_questioned (View v) seat r never wrong = wrong
no_desk_questioned (Questions q) seat r never wrong = wrong
no_desk_questioned Refused seat r never wrong = wrong
