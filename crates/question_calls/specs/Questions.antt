-- What each question answers.
use Rattle.std.specs.Prelude.{◌≡◌, ◌⊎◌, ℕ, List, [], Bool, true, false, Option, Some, None, Result, Ok, Err, if◌then◌else◌, ◌==◌}
use Rattle.netlist_schema.specs.Design.{Design}
use Rattle.flat_lines_spec.specs.Lines.{item_line}
use Rattle.flat_spec.specs.Types.{Item}
use Rattle.ask_spec.specs.Nets.{inner_net_of, net_of}
use Rattle.ask_spec.specs.declared.role.Role.{Role}
use Rattle.ask_spec.specs.declared.role.Role.TheVariants as roles
use Rattle.netdb_questions.specs.Answers.{BeginsInsts, BeginsNets, BeginsPins, FindsFirst, FindsNet, FindsOccurrence, FindsSame}
use Rattle.netdb_questions.specs.Facts.{QuestionFacts}
use Rattle.netdb_questions.specs.Lists.{Gives}
use Rattle.netdb_questions.specs.declared.finding.Refusal.{Refusal}
use Rattle.netdb_questions.specs.declared.finding.Refusal.TheVariants as no
use Rattle.netdb_questions.specs.declared.lists.NextError.{NextError}
use Rattle.netdb_questions.specs.declared.lists.NextError.TheVariants as next
use Rattle.call_status.specs.Telling.{only, told}
use Rattle.question_calls.specs.declared.calls.QuestionCall.{QuestionCall}
use Rattle.question_calls.specs.declared.calls.QuestionCall.TheVariants as questions
use Rattle.call_status.specs.declared.told.Told.{Told}
use Rattle.call_status.specs.declared.status.Status.{Status}
use Rattle.call_status.specs.declared.status.Status.TheVariants as says

-- why a question has no answer
abbrev pub told_of_refusal : Refusal → Told
told_of_refusal no.NoPath = only says.NoPath
told_of_refusal no.NoName = only says.NoName
told_of_refusal no.NoNet = only says.NoNet
told_of_refusal no.NoMemory = only says.NoMemory

-- the text is the line of the item; or there was no memory for it, and it is empty
abbrev pub Said : Design → Item → Status → List ℕ → Told → Type 0
Said d item lost after answer = ((answer ≡ only says.Done) × (after ≡ item_line d item)) ⊎ ((answer ≡ only lost) × (after ≡ []))

-- the item that answers is said; a refusal leaves the text
abbrev pub SaysItem : Design → Result Item Refusal → List ℕ → List ℕ → Told → Type 0
SaysItem d (Ok item) before after answer = Said d item says.NoMemory after answer
SaysItem d (Err refusal) before after answer = (answer ≡ told_of_refusal refusal) × (after ≡ before)

-- whether two nets are connected
abbrev pub told_of_same : Result Bool Refusal → Told
told_of_same (Ok true) = only says.Done
told_of_same (Ok false) = only says.Apart
told_of_same (Err refusal) = told_of_refusal refusal

abbrev pub TellsSame : Design → List ℕ → List ℕ → List ℕ → List ℕ → Told → Type 0
TellsSame d text name other_text other_name answer = (r : Result Bool Refusal) × FindsSame d text name other_text other_name r × (answer ≡ told_of_same r)

-- what the beginning of a list came to
abbrev pub told_of_begun : Result (Unit {0}) Refusal → Told
told_of_begun (Ok done) = only says.Done
told_of_begun (Err refusal) = told_of_refusal refusal

-- the role of a number, where it is one
abbrev pub role_at : ℕ → Option Role
role_at number = if number == 0 then Some roles.Any else if number == 1 then Some roles.Driver else if number == 2 then Some roles.Load else None

-- a list of the pins that stand in the role of that number was begun; where it is none, nothing was changed
abbrev pub BeginsAs : Option Role → QuestionFacts → QuestionFacts → List ℕ → List ℕ → Told → Type 0
BeginsAs (Some role) old new text name answer = (r : Result (Unit {0}) Refusal) × BeginsPins old new role text name r × (answer ≡ told_of_begun r)
BeginsAs None old new text name answer = (new ≡ old) × (answer ≡ only says.WrongUse)

-- the next item is said; where none was given, the text stays
abbrev pub SaysNext : Design → Result (Option Item) NextError → List ℕ → List ℕ → Told → Type 0
SaysNext d (Ok (Some item)) before after answer = Said d item says.TextLost after answer
SaysNext d (Ok None) before after answer = (answer ≡ only says.End) × (after ≡ before)
SaysNext d (Err next.NoList) before after answer = (answer ≡ only says.WrongUse) × (after ≡ before)
SaysNext d (Err next.NoMemory) before after answer = (answer ≡ only says.NoMemory) × (after ≡ before)

-- a question that leaves what was opened as it was, answered by an item
abbrev pub AnswersItem : (Design → Result Item Refusal → Type 0) → QuestionFacts → QuestionFacts → List ℕ → List ℕ → Told → Type 0
AnswersItem finds old new before after answer =
    (new ≡ old) × ((r : Result Item Refusal) × finds old.version.design r × SaysItem old.version.design r before after answer)

-- the next item of the list that was begun last was given, where one was left
abbrev pub AnswersNext : QuestionFacts → QuestionFacts → List ℕ → List ℕ → Told → Type 0
AnswersNext old new before after answer =
    (new.version ≡ old.version) × ((r : Result (Option Item) NextError) × Gives old.left new.left r × SaysNext new.version.design r before after answer)

abbrev pub AnswersQuestion : QuestionCall → QuestionFacts → QuestionFacts → List ℕ → List ℕ → Told → Type 0
AnswersQuestion questions.Version old new before after answer = (new ≡ old) × (after ≡ before) × (answer ≡ told says.Done old.version.version)
AnswersQuestion (questions.At path) old new before after answer = AnswersItem (λ d. FindsOccurrence d path.now) old new before after answer
AnswersQuestion (questions.NetOf path port bit) old new before after answer = AnswersItem (λ d. FindsNet net_of d path.now port.now bit) old new before after answer
AnswersQuestion (questions.InnerNetOf path port bit) old new before after answer =
    AnswersItem (λ d. FindsNet inner_net_of d path.now port.now bit) old new before after answer
AnswersQuestion (questions.FirstOf path net) old new before after answer = AnswersItem (λ d. FindsFirst d path.now net.now) old new before after answer
AnswersQuestion (questions.Same path net other_path other_net) old new before after answer =
    (new ≡ old) × (after ≡ before) × TellsSame old.version.design path.now net.now other_path.now other_net.now answer
AnswersQuestion (questions.Pins path net number) old new before after answer = (after ≡ before) × BeginsAs (role_at number) old new path.now net.now answer
AnswersQuestion (questions.Insts path) old new before after answer =
    (after ≡ before) × ((r : Result (Unit {0}) Refusal) × BeginsInsts old new path.now r × (answer ≡ told_of_begun r))
AnswersQuestion (questions.Nets path) old new before after answer =
    (after ≡ before) × ((r : Result (Unit {0}) Refusal) × BeginsNets old new path.now r × (answer ≡ told_of_begun r))
AnswersQuestion questions.Next old new before after answer = AnswersNext old new before after answer
