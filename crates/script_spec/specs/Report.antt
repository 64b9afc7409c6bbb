-- The report of a history, and what it is to be the report of one.
use Rattle.std.specs.Prelude.{◌≡◌, ℕ, ◌+◌, ◌<◌, List, [], ◌∷◌, ◌++◌, length, codes, decimal}
use Rattle.std.specs.List.{All, flat_map}
use Rattle.netlist_schema.specs.Design.{Design}
use Rattle.edif_spec.specs.Arranged.{canonical_text}
use Rattle.db_spec.specs.Answers.{most_events}
use Rattle.db_spec.specs.History.{Legal, state_after, version_at}
use Rattle.db_spec.specs.State.{head}
use Rattle.db_spec.specs.declared.event.Event.{Event}
use Rattle.flat_lines_spec.specs.Lines.{flattening_text}
use Rattle.script_spec.specs.declared.script.Step.{Step}
use Rattle.script_spec.specs.Session.{Word, Began, Replied, Committed, Conflict, Abandoned, Pinned, NoVersion, Gone, Walked, Released, NoPin, Collected, LogFull, Ending, Whole, Full, Session}
use Rattle.script_spec.specs.Texts.{line, reply_text, conflict_words, event_texts}

-- the design of the last version
abbrev pub head_design : Design → List Event → Design
head_design d history = version_at d history (head (state_after d history))

-- ---- transcripts

-- What a session says, in lines. A walk is the items of its version's flattening up to the limit, and `end` or `more`. A design
-- tells the names of what conflicts.
abbrev pub word_text : Design → (ℕ → Design) → Word → List ℕ
word_text d versions (Began v) = line (codes "begin" ∷ decimal v ∷ [])
word_text d versions (Replied reply) = line (reply_text reply ∷ [])
word_text d versions (Committed v) = line (codes "committed" ∷ decimal v ∷ [])
word_text d versions (Conflict object v) = line (conflict_words d object v)
word_text d versions Abandoned = line (codes "abandoned" ∷ [])
word_text d versions (Pinned v) = line (codes "pin" ∷ decimal v ∷ [])
word_text d versions (NoVersion last) = line (codes "no-version" ∷ decimal last ∷ [])
word_text d versions (Gone least) = line (codes "gone" ∷ decimal least ∷ [])
word_text d versions (Walked v limit) = flattening_text (versions v) limit
word_text d versions Released = line (codes "released" ∷ [])
word_text d versions NoPin = line (codes "no-pin" ∷ [])
word_text d versions (Collected count) = line (codes "collected" ∷ decimal count ∷ [])
word_text d versions LogFull = line (codes "log-full" ∷ [])

-- the transcript of what a session says in a history
abbrev pub transcript : Design → List Event → List Word → List ℕ
transcript d history said = flat_map (word_text (head_design d history) (version_at d history)) said

-- ---- sessions of many scripts

-- what a script came to: the words of its session, and how it ended
pub record SessionResult : Type 0 where
  pub said : List Word
  pub ending : Ending

-- the scripts fit the events of their callers, who are numbered from this number on, and come to these
abbrev pub Sessions : Design → List Event → ℕ → List (List Step) → List SessionResult → Type 0
Sessions d history caller [] [] = Unit {0}
Sessions d history caller (script ∷ scripts) (came ∷ results) =
    Session d history caller script came.said came.ending × Sessions d history (caller + 1) scripts results
Sessions d history caller scripts results = ⊥

-- where a session ends since the log was full, the history has not the places that the refused call wanted
abbrev pub HasFilled : List Event → Ending → Type 0
HasFilled history Whole = Unit {0}
HasFilled history (Full places) = most_events < length history + places

-- ---- the report

-- `script K` and its transcript, for the scripts from this number on
abbrev pub script_texts : Design → List Event → ℕ → List SessionResult → List ℕ
script_texts d history k [] = []
script_texts d history k (came ∷ results) = line (codes "script" ∷ decimal k ∷ []) ++ transcript d history came.said ++ script_texts d history (k + 1) results

-- `history` and the events, the transcripts in the order of the scripts, `design` and the canonical text of the last version
abbrev pub report : Design → List Event → List SessionResult → List ℕ
report d history results =
    line (codes "history" ∷ [])
    ++ event_texts (head_design d history) 0 history
    ++ script_texts d history 0 results
    ++ line (codes "design" ∷ [])
    ++ canonical_text (head_design d history)

-- The text is the report of this history: it is legal, its callers are the scripts, each fits its caller's events, a script ends by
-- a full log only where the log is full for its call, and the text is as above.
pub record Prints (d : Design) (scripts : List (List Step)) (text : List ℕ) (history : List Event) : Type 0 where
  pub legal : Legal d history
  pub callers : All (λ event. event.caller < length scripts) history
  pub results : List SessionResult
  pub fit : Sessions d history 0 scripts results
  pub filled : All (λ came. HasFilled history came.ending) results
  pub printed : text ≡ report d history results
