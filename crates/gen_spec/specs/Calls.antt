-- The calls of the run that a number makes, and its history.
use Rattle.std.specs.Prelude.{◌≡◌, ◌==◌, ℕ, zero, suc, ◌+◌, ◌%◌, if◌then◌else◌, List, [], ◌∷◌, ◌++◌, map}
use Rattle.gen_spec.specs.Generated.{generated, edit_at}
use Rattle.db_spec.specs.History.{Legal}
use Rattle.db_spec.specs.Laws.{asked}
use Rattle.db_spec.specs.declared.event.Call.{Call}
use Rattle.db_spec.specs.declared.event.Call.TheVariants.{Pin, Release, Collect, Commit}
use Rattle.db_spec.specs.declared.event.Event.{Event}

-- after each sixteenth round caller 0 collects
abbrev pub collect_after : ℕ → List (ℕ × Call)
collect_after k = if (k % 16) == 0 then (0, Collect) ∷ [] else []

-- The round of number k, from 1 on: caller 0 pins the last version, commits the edit of that number, and releases the pin, which has
-- the round's number, since pin 0 is caller 1's.
abbrev pub round : ℕ → ℕ → List (ℕ × Call)
round n k = (0, Pin) ∷ (0, Commit k (edit_at n k ∷ [])) ∷ (0, Release k) ∷ collect_after k

-- the rounds up to that of number k
abbrev pub rounds : ℕ → ℕ → List (ℕ × Call)
rounds n zero = []
rounds n (suc k) = rounds n k ++ round n (suc k)

-- Caller 1 pins version 0; caller 0 goes through n rounds, and pins the last version. Then both pins are released.
abbrev pub calls : ℕ → List (ℕ × Call)
calls n = (1, Pin) ∷ rounds n n ++ (0, Pin) ∷ (0, Release (n + 1)) ∷ (1, Release 0) ∷ []

-- the history of the run of number n: it is legal from the generated design on, and its callers and calls are these, in order
pub record IsGenerated (n : ℕ) (history : List Event) : Type 0 where
  pub legal : Legal (generated n) history
  pub in_order : map asked history ≡ calls n
