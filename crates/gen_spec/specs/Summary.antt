-- What is told of the run that a number makes.
use Rattle.std.specs.Prelude.{◌≡◌, ℕ, Bool, true, false, List, [], ◌∷◌, ◌++◌, length, codes, count_by, sum_by}
use Rattle.std.specs.Fmt.{decimal}
use Rattle.netlist_schema.specs.Design.{Design}
use Rattle.flat_spec.specs.Flattening.{flattening}
use Rattle.flat_spec.specs.Types.{Item}
use Rattle.flat_spec.specs.declared.item.Item.TheVariants.{Enter, Net, Pin}
use Rattle.db_spec.specs.History.{version_at}
use Rattle.db_spec.specs.declared.event.Answer.{Answer}
use Rattle.db_spec.specs.declared.event.Answer.TheVariants.{Collected, Committed}
use Rattle.db_spec.specs.declared.event.Event.{Event}
use Rattle.gen_spec.specs.Generated.{generated}
use Rattle.gen_spec.specs.Calls.{IsGenerated}
use Rattle.gen_spec.specs.declared.summary.Counts.{Counts}
use Rattle.gen_spec.specs.declared.summary.Walked.{Walked}
use Rattle.gen_spec.specs.declared.summary.Summary.{Summary}

-- ---- a flattening, counted

abbrev pub is_occurrence : Item → Bool
is_occurrence (Enter path cell properties) = true
is_occurrence item = false

abbrev pub is_net : Item → Bool
is_net (Net path net first) = true
is_net item = false

abbrev pub is_pin : Item → Bool
is_pin (Pin path port bit first) = true
is_pin item = false

-- how many properties an occurrence has
abbrev pub properties_of : Item → ℕ
properties_of (Enter path cell properties) = length properties
properties_of item = 0

abbrev pub counts_of : List Item → Counts
counts_of items = record {
  instances = count_by is_occurrence items;
  nets = count_by is_net items;
  pins = count_by is_pin items;
  properties = sum_by properties_of items;
}

abbrev pub walked : ℕ → Design → Walked
walked version d = record { version = version; counts = counts_of (flattening d) }

-- ---- a history, counted

-- a commit that was accepted
abbrev pub is_accepted : Answer → Bool
is_accepted (Committed version replies) = true
is_accepted answer = false

-- how many versions a collect dropped
abbrev pub dropped_by : Answer → ℕ
dropped_by (Collected count) = count
dropped_by answer = 0

-- how many commits were accepted, how many versions were dropped together, how many events there are, and what versions 0 and n have
abbrev pub summary_of : ℕ → List Event → Summary
summary_of n history = record {
  number = n;
  commits = count_by (λ event. is_accepted event.answer) history;
  collected = sum_by (λ event. dropped_by event.answer) history;
  events = length history;
  first = walked 0 (version_at (generated n) history 0);
  last = walked n (version_at (generated n) history n);
}

-- ---- the text

-- a word, a blank and a number
abbrev pub told : List ℕ → ℕ → List ℕ
told word number = word ++ 32 ∷ decimal number

abbrev pub line : List ℕ → List ℕ
line words = words ++ 10 ∷ []

abbrev pub walk_line : Walked → List ℕ
walk_line w = line (
    told (codes "version") w.version
    ++ told (codes " instances") w.counts.instances
    ++ told (codes " nets") w.counts.nets
    ++ told (codes " pins") w.counts.pins
    ++ told (codes " properties") w.counts.properties)

-- six lines: the number of the run, the counts of its history, and a line for each walk
abbrev pub summary_text : Summary → List ℕ
summary_text s =
    line (told (codes "gen") s.number)
    ++ line (told (codes "commits") s.commits)
    ++ line (told (codes "collected") s.collected)
    ++ line (told (codes "events") s.events)
    ++ walk_line s.first
    ++ walk_line s.last

-- the text is the summary of the run of number n
pub record IsSummaryOf (n : ℕ) (text : List ℕ) : Type 0 where
  pub history : List Event
  pub generated : IsGenerated n history
  pub text_is : text ≡ summary_text (summary_of n history)
