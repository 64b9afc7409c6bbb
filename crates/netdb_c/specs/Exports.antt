-- What each export leaves in a handle, and answers.
use Rattle.std.specs.Prelude.{◌≡◌, ◌⊎◌, ◌++◌, ℕ, ℤ, List, [], Option, Some, None, Result, Ok, Err, drop, length, min, take}
use Rattle.netdb_outside.specs.Outside.{Rose}
use Rattle.netdb_calls.specs.Answers.{Asks, OpensQuestions, OpensView}
use Rattle.netdb_calls.specs.Descriptors.{DescriptorFacts, bytes_told, fresh}
use Rattle.call_status.specs.Numbers.{number_of}
use Rattle.netdb_calls.specs.Opening.{Opens}
use Rattle.call_status.specs.Telling.{only}
use Rattle.netdb_calls.specs.Texts.{WritesReport, WritesTo}
use Rattle.netdb_calls.specs.declared.calls.Call.{Call}
use Rattle.call_status.specs.declared.told.Told.{Told}
use Rattle.netdb_calls.specs.declared.opened.Opened.{Opened}
use Rattle.call_status.specs.declared.status.Status.{Status}
use Rattle.call_status.specs.declared.status.Status.TheVariants as says

-- what the handle holds was asked, and the handle holds it still; a closed handle answers a wrong use, and stays closed
abbrev pub HasAsked : Call → Option Opened → Option Opened → Told → Type 0
HasAsked call None new answer = (new ≡ None) × (answer ≡ only says.WrongUse)
HasAsked call (Some old) new answer = (now : Opened) × (new ≡ Some now) × Asks call old now answer

-- the export answers the number of the status
abbrev pub Answers : Call → Option Opened → Option Opened → ℕ → Type 0
Answers call old new result = (answer : Told) × HasAsked call old new answer × (result ≡ number_of answer.status)

-- the number of these statuses is given; else the place for it stays as it was
abbrev pub Given : Status → ℕ → ℕ → ℕ → Type 0
Given says.Done number old new = new ≡ number
Given says.Conflict number old new = new ≡ number
Given says.NoVersion number old new = new ≡ number
Given says.Gone number old new = new ≡ number
Given other number old new = new ≡ old

abbrev pub Gives : Told → ℕ → ℕ → ℕ → Type 0
Gives answer old new result = (result ≡ number_of answer.status) × Given answer.status answer.number old new

-- the same, and a number is given
abbrev pub Says : Call → Option Opened → Option Opened → ℕ → ℕ → ℕ → Type 0
Says call old new before after result = (answer : Told) × HasAsked call old new answer × Gives answer before after result

-- what was opened is held; or there was no memory, and the handle holds what it held
abbrev pub HasPut : Option Opened → Option Opened → Opened → Status → ℕ → Type 0
HasPut old new opened status result = ((new ≡ Some opened) × (result ≡ number_of status)) ⊎ ((new ≡ old) × (result ≡ number_of says.NoMemory))

-- what the bytes open is held; or the handle holds what it held
abbrev pub Holds : Option Opened → Option Opened → ℕ → Result (Opened × Status) Status → Type 0
Holds old new result (Ok (opened, status)) = HasPut old new opened status result
Holds old new result (Err status) = (new ≡ old) × (result ≡ number_of status)

abbrev pub HasOpened : List ℕ → Option Opened → Option Opened → ℕ → Type 0
HasOpened bytes old new result = (answer : Result (Opened × Status) Status) × Opens bytes answer × Holds old new result answer

-- the other handle holds a view of the version that the seat of this one holds, and this one what it held; or both hold what they held
abbrev pub Shows : Option Opened → Option Opened → ℕ → Result Opened Status → Type 0
Shows before after result (Ok made) = HasPut before after made says.Done result
Shows before after result (Err status) = (after ≡ before) × (result ≡ number_of status)

abbrev pub HasViewed : Option Opened → Option Opened → ℕ → Option Opened → Option Opened → ℕ → Type 0
HasViewed None new seat before after result = (new ≡ None) × (after ≡ before) × (result ≡ number_of says.WrongUse)
HasViewed (Some opened) new seat before after result = (new ≡ Some opened) × ((answer : Result Opened Status) × OpensView opened seat answer × Shows before after result answer)

-- the same of questions
abbrev pub HasQuestions : Option Opened → Option Opened → ℕ → Option Opened → Option Opened → ℕ → Type 0
HasQuestions None new seat before after result = (new ≡ None) × (after ≡ before) × (result ≡ number_of says.WrongUse)
HasQuestions (Some opened) new seat before after result =
    (new ≡ Some opened) × ((answer : Result Opened Status) × OpensQuestions opened seat answer × Shows before after result answer)

-- the text that is held
abbrev pub text_of : Option Opened → List ℕ
text_of None = []
text_of (Some opened) = opened.text.items

-- the front of the text was copied, as far as there is room
abbrev pub Copies : Option Opened → List ℕ → List ℕ → ℕ → Type 0
Copies held before after result = (result ≡ min (length (text_of held)) (length before)) × (after ≡ take result (text_of held) ++ drop result before)

-- ---- texts, on their way to a sink

-- the text of a number of what is held was written; a closed handle has none, and nothing was written
abbrev pub HasWritten : Option Opened → ℕ → Option (List ℕ) → Option (List ℕ) → Status → Type 0
HasWritten None number old new status = (status ≡ says.WrongUse) × (new ≡ old)
HasWritten (Some opened) number old new status = WritesTo opened.inside number old new status

-- the history of what is held was
abbrev pub HasReported : Option Opened → Option (List ℕ) → Option (List ℕ) → Status → Type 0
HasReported None old new status = (status ≡ says.WrongUse) × (new ≡ old)
HasReported (Some opened) old new status = WritesReport opened.inside old new status

-- It was written so to a sink over the descriptor, from its beginning on, as far as such a sink tells: a fault of the call is one of the
-- sink, and the export answers the number of the status.
pub record GoesTo (descriptor : ℤ) (Wrote : Option (List ℕ) → Option (List ℕ) → Status → Type 0) (result : ℕ) : Type 0 where
  pub first : DescriptorFacts
  pub last : DescriptorFacts
  pub status : Status
  pub begun : first ≡ fresh descriptor
  pub wrote : Wrote (bytes_told first) (bytes_told last) status
  pub refused : status ≡ says.WrongUse → last ≡ first
  pub fault : status ≡ says.WriteFault → Rose first.faults last.faults
  pub number : result ≡ number_of status
