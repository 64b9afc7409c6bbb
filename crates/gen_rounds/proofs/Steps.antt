-- What each call of a run leaves of where it stands.
use Rattle.std.proofs.Common.{◌≡◌, ℕ, ◌+◌, ◌≤◌, ◌<◌, ◌==◌, not, cond, true, false, List, [], ◌∷◌, ◌++◌, length, map, filter, ap, ◌∙◌, arith, length-append}
use Rattle.std.proofs.lemmas.Bool.Decides.{nat_tests}
use Rattle.std.proofs.lemmas.List.{map-append}
use Rattle.netlist_schema.specs.Design.{Design}
use Rattle.edit_rules_spec.specs.declared.reply.Reply.{Reply}
use Rattle.edit_spec.specs.declared.ops.Op.{Op}
use Rattle.edit_tx.specs.Facts.{PinFacts}
use Rattle.db_spec.specs.Answers.{HasPlaces}
use Rattle.db_spec.specs.History.{version_at}
use Rattle.db_spec.specs.Laws.{asked}
use Rattle.db_spec.specs.State.{State, LivePin, after, head, live_pin, next_version}
use Rattle.db_spec.specs.declared.event.Answer.TheVariants.{Pinned, Released, Collected, Committed}
use Rattle.db_spec.specs.declared.event.Call.{Call}
use Rattle.db_spec.specs.declared.event.Call.TheVariants.{Pin, Release, Collect, Commit}
use Rattle.db_spec.specs.declared.event.Event.{Event}
use Rattle.db_spec.proofs.Histories.{state_after-push}
use Rattle.db_core.specs.Calls.{Adds, Pins, event_of}
use Rattle.db_core.specs.Story.{Story, state}
use Rattle.gen_spec.specs.Generated.{generated}
use Rattle.gen_rounds.specs.Stand.{IsPin, Stands, held}

-- the state is the one after the event
pub next_state : (old new : Story) (event : Event) → Adds old new event → state new ≡ after (state old) event
next_state old new event adds =
    let story : new ≡ record { opening = old.opening; events = old.events ++ event ∷ [] } = λ i. record { opening = adds.opening i; events = adds.events i } in
    ap (λ (st : Story). state st) story ∙ state_after-push old.opening old.events event

module _ (n : ℕ) (calls : List (ℕ × Call)) (pins : List LivePin) (made last most : ℕ) (old new : Story) (h : Stands n calls pins made last most old) where
  -- an event that leaves these pins and numbers
  on : (event : Event) (now : List LivePin) (made_now last_now : ℕ) → Adds old new event
      → (after (state old) event).pins ≡ now → (after (state old) event).made ≡ made_now → head (after (state old) event) ≡ last_now
      → Stands n (calls ++ asked event ∷ []) now made_now last_now (most + 1) new
  on event now made_now last_now adds live made_are last_is =
      let next = next_state old new event adds in
      let before = h.few in
      let count : (state new).events ≡ (state old).events + 1 = ap (λ (s : State). s.events) next in
      record {
        opening = adds.opening ∙ h.opening;
        in_order = ap (map asked) adds.events ∙ (map-append asked old.events (event ∷ []) ∙ ap (λ (cs : List (ℕ × Call)). cs ++ asked event ∷ []) h.in_order);
        live = ap (λ (s : State). s.pins) next ∙ live;
        made_are = ap (λ (s : State). s.made) next ∙ made_are;
        last_is = ap (λ (s : State). head s) next ∙ last_is;
        few = omega arith;
      }

  -- the last version is pinned
  pub pinned_on : (caller : ℕ) (pin : PinFacts) → Pins old new caller Pin pin → Stands n (calls ++ (caller, Pin) ∷ []) (pins ++ live_pin made caller last ∷ []) (made + 1) last (most + 1) new
  pinned_on caller pin p =
      let v_is : pin.version ≡ last = p.adds.admits.answers.1 ∙ h.last_is in
      on (event_of caller Pin (Pinned pin.number pin.version)) (pins ++ live_pin made caller last ∷ []) (made + 1) last p.adds
      (ap (λ (ps : List LivePin). ps ++ live_pin (state old).made caller pin.version ∷ []) h.live
      ∙ (ap (λ (m : ℕ). pins ++ live_pin m caller pin.version ∷ []) h.made_are ∙ ap (λ (v : ℕ). pins ++ live_pin made caller v ∷ []) v_is))
      (ap (λ (m : ℕ). m + 1) h.made_are)
      h.last_is

  -- that pin
  pub pin_is : (caller : ℕ) (pin : PinFacts) → Pins old new caller Pin pin → IsPin made caller last (version_at (generated n) new.events last) pin
  pin_is caller pin p =
      let v_is : pin.version ≡ last = p.adds.admits.answers.1 ∙ h.last_is in
      record {
        number_is = p.adds.admits.answers.0 ∙ h.made_are;
        caller_is = p.caller_is;
        version_is = v_is;
        design_is = p.is_pin.design
            ∙ (ap (λ (v : ℕ). version_at new.opening new.events v) v_is ∙ ap (λ (d : Design). version_at d new.events last) (p.adds.opening ∙ h.opening));
      }

  -- operations are committed
  pub committed_on : (caller number v : ℕ) (ops : List Op) (replies : List Reply) → Adds old new (event_of caller (Commit number ops) (Committed v replies))
      → Stands n (calls ++ (caller, Commit number ops) ∷ []) pins made (last + 1) (most + 1) new
  committed_on caller number v ops replies adds =
      on (event_of caller (Commit number ops) (Committed v replies)) pins made (last + 1) adds h.live h.made_are (one_more ∙ ap (λ (m : ℕ). m + 1) h.last_is)
    where
      one_more : head (after (state old) (event_of caller (Commit number ops) (Committed v replies))) ≡ head (state old) + 1
      one_more = length-append (state old).commits (next_version (state old) ops ∷ [])

  -- a pin is released
  pub released_on : (caller number : ℕ) (now : List LivePin) → Adds old new (event_of caller (Release number) Released) → filter (λ (pin : LivePin). not (pin.number == number)) pins ≡ now
      → Stands n (calls ++ (caller, Release number) ∷ []) now made last (most + 1) new
  released_on caller number now adds left =
      on (event_of caller (Release number) Released) now made last adds
      (ap (filter (λ (pin : LivePin). not (pin.number == number))) h.live ∙ left) h.made_are h.last_is

  -- versions are dropped
  pub collected_on : (caller count : ℕ) → Adds old new (event_of caller Collect (Collected count)) → Stands n (calls ++ (caller, Collect) ∷ []) pins made last (most + 1) new
  collected_on caller count adds = on (event_of caller Collect (Collected count)) pins made last adds h.live h.made_are h.last_is

  -- few events and few pins leave room
  pub has_places : (more few : ℕ) → length pins ≤ few → most + few + more ≤ 4194304 → HasPlaces (state old) more
  has_places more few le fits =
      let count = h.few in
      let live : length (state old).pins ≡ length pins = ap length h.live in
      omega arith

itself : (k : ℕ) → not (k == k) ≡ false
itself k = grind (arith, nat_tests)

above : (k : ℕ) → 0 < k → not (0 == k) ≡ true
above k lt = grind (arith, nat_tests)

-- of the held pin and another one, the other one is released
pub other_released : (k caller v : ℕ) → 0 < k → filter (λ (pin : LivePin). not (pin.number == k)) (held ∷ live_pin k caller v ∷ []) ≡ held ∷ []
other_released k caller v lt =
    ap (λ b. cond b (held ∷ cond (not (k == k)) (live_pin k caller v ∷ []) []) (cond (not (k == k)) (live_pin k caller v ∷ []) [])) (above k lt)
    ∙ ap (λ b. held ∷ cond b (live_pin k caller v ∷ []) []) (itself k)
