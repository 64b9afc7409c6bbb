-- What each call leaves of the fields.
use Rattle.std.proofs.Common.{◌≡◌, ℕ, ◌+◌, ◌≤◌, List, [], ◌∷◌, ◌++◌, not, length, map, filter, Contains, refl, ap, sym, ◌∙◌, subst, arith, length-append, vec_capacity, Vec, Global, ◌==◌}
use Rattle.std.specs.List.{All}
use Rattle.std.proofs.lemmas.List.{map-append}
use Rattle.std.proofs.lemmas.List.Elements.{All-push, Contains-push}
use Rattle.db_version.specs.Shot.{Shot}
use Rattle.pin_registry.specs.Registry.{Registry, with_pin, without_pin, live_pin as held_pin}
use Rattle.pin_registry.specs.Registry.{LivePin as HeldPin}
use Rattle.db_spec.specs.declared.event.Event.{Event}
use Rattle.db_spec.specs.State.{State, after, changed, pinned, released, collected, stays, live_pin, IsLive, design}
use Rattle.db_spec.specs.declared.event.Call.{Call}
use Rattle.db_spec.specs.declared.event.Answer.TheVariants.{Pinned}
use Rattle.edit_tx.specs.Facts.{PinFacts}
use Rattle.db_spec.specs.Answers.{Admits}
use Rattle.db_spec.specs.History.{state_after}
use Rattle.db_spec.specs.Laws.{IsTypedCall}
use Rattle.db_spec.proofs.Histories.{state_after-push, legal-push}
use Rattle.db_core.specs.declared.database.Core.TheInside.{Inside}
use Rattle.db_core.specs.Calls.{Pins, event_of}
use Rattle.db_core.specs.Inside.{Stands, IsCore, held, story_of}
use Rattle.db_core.specs.Story.{Story, IsHistory, shot, state}
use Rattle.db_core.proofs.Shots.{filter_shots}
use Rattle.db_core.proofs.Pins.{filter_held}

-- one event more is counted
abbrev pub counted : State → State
counted s = record s { events = s.events + 1 }

abbrev AreTyped : List Event → Type 0
AreTyped events = All (λ event. IsTypedCall event.call) events

-- the state that the fields stand for
abbrev pub state_of : Inside → State
state_of c = state (story_of c)

-- more room in the log and among the versions changes nothing
pub roomier : (c : Inside) (versions : Vec Shot Global) (log : Vec Event Global) → IsCore c → versions.items ≡ c.versions.items → log.items ≡ c.log.items → vec_capacity c.log ≤ vec_capacity log
    → IsCore (record c { versions = versions; log = log })
roomier c versions log core same items room =
    let h = core.stands in
    let before = h.places in
    let long : length log.items ≡ length c.log.items = ap length items in
    let story : story_of c ≡ record { opening = c.opening.design; events = log.items } = ap (λ (xs : List Event). record { opening = c.opening.design; events = xs }) (sym items) in
    let kept : versions.items ≡ map (shot (state_of c)) (state_of c).kept = same ∙ h.versions in
    let places : length log.items + length (state_of c).pins ≤ vec_capacity log = omega arith in
    let stands : Stands (record c { versions = versions; log = log }) (state_of c) = record { versions = kept; head_is = h.head_is; made = h.made; live = h.live; stamped = h.stamped; places = places } in
    record {
      first = core.first;
      history = subst IsHistory story core.history;
      stands = subst (λ (st : Story). Stands (record c { versions = versions; log = log }) (state st)) story stands;
    }

pub roomy : (c : Inside) (log : Vec Event Global) → IsCore c → log.items ≡ c.log.items → vec_capacity c.log ≤ vec_capacity log → IsCore (record c { log = log })
roomy c log core items room = roomier c c.versions log core refl items room

-- an event that is admitted is added
pub core_adds : (old new : Inside) (event : Event) → IsCore old → new.opening ≡ old.opening → new.log.items ≡ old.log.items ++ event ∷ [] → Admits (state_of old) event → IsTypedCall event.call
    → Stands new (after (state_of old) event) → IsCore new
core_adds old new event core opened added admits typed stands =
    let h = core.history in
    let long : IsHistory (record { opening = old.opening.design; events = old.log.items ++ event ∷ [] }) = record {
      valid = h.valid;
      legal = legal-push old.opening.design old.log.items event h.legal admits;
      typed = All-push (λ (e : Event). IsTypedCall e.call) old.log.items event h.typed typed;
    } in
    let story : record { opening = old.opening.design; events = old.log.items ++ event ∷ [] } ≡ story_of new = λ i. record { opening = (sym opened i).design; events = sym added i } in
    record {
      first = ap (λ (k : Shot). k.version) opened ∙ core.first;
      history = subst IsHistory story long;
      stands = subst (λ (st : Story). Stands new (state st)) story (subst (Stands new) (sym (state_after-push old.opening.design old.log.items event)) stands);
    }

-- an event that changes nothing else
pub stands_noted : (c : Inside) (s : State) (event : Event) (log : Vec Event Global) → Stands c s → changed s event.caller event.call event.answer ≡ s → length log.items + length s.pins ≤ vec_capacity log → Stands (record c { log = log }) (after s event)
stands_noted c s event log h same places =
    subst (λ (t : State). Stands (record c { log = log }) (record t { events = s.events + 1 })) (sym same)
    (record { versions = h.versions; head_is = h.head_is; made = h.made; live = h.live; stamped = h.stamped; places = places })

pub stands_pinned : (c : Inside) (s : State) (caller v : ℕ) (pins : Registry) (log : Vec Event Global) → Stands c s → pins ≡ with_pin c.pins v → length log.items + (length s.pins + 1) ≤ vec_capacity log
    → Stands (record c { pins = pins; log = log }) (counted (pinned s caller v))
stands_pinned c s caller v pins log h is places = record {
  versions = h.versions;
  head_is = h.head_is;
  made = ap (λ (r : Registry). r.made) is ∙ ap (λ n. n + 1) h.made;
  live = ap (λ (r : Registry). r.live) is ∙ ap (λ (ps : List HeldPin). ps ++ held_pin c.pins.made v ∷ []) h.live
      ∙ ap (λ n. map held s.pins ++ held_pin n v ∷ []) h.made ∙ sym (map-append held s.pins (live_pin s.made caller v ∷ []));
  stamped = h.stamped;
  places = let more = length-append s.pins (live_pin s.made caller v ∷ []) in omega arith;
}

pub stands_released : (c : Inside) (s : State) (number : ℕ) (pins : Registry) (log : Vec Event Global) → Stands c s → pins ≡ without_pin c.pins number → length log.items + length (released s number).pins ≤ vec_capacity log
    → Stands (record c { pins = pins; log = log }) (counted (released s number))
stands_released c s number pins log h is places = record {
  versions = h.versions;
  head_is = h.head_is;
  made = ap (λ (r : Registry). r.made) is ∙ h.made;
  live = ap (λ (r : Registry). r.live) is ∙ ap (λ (ps : List HeldPin). filter (λ p. not (p.number == number)) ps) h.live ∙ filter_held number s.pins;
  stamped = h.stamped;
  places = places;
}

-- the versions that stay
pub kept_after : (c : Inside) (s : State) (ks : List Shot) → Stands c s → ks ≡ filter (λ (k : Shot). stays s k.version) c.versions.items → ks ≡ map (shot s) (filter (stays s) s.kept)
kept_after c s ks h is = is ∙ ap (λ (xs : List Shot). filter (λ (k : Shot). stays s k.version) xs) h.versions ∙ filter_shots s (stays s) s.kept

pub stands_collected : (c : Inside) (s : State) (versions : Vec Shot Global) (log : Vec Event Global) → Stands c s → versions.items ≡ filter (λ (k : Shot). stays s k.version) c.versions.items → length log.items + length s.pins ≤ vec_capacity log
    → Stands (record c { versions = versions; log = log }) (counted (collected s))
stands_collected c s versions log h is places = record {
  versions = kept_after c s versions.items h is;
  head_is = h.head_is;
  made = h.made;
  live = h.live;
  stamped = h.stamped;
  places = places;
}

-- a pin was made
pub pins_made : (old : Inside) (log : Vec Event Global) (caller : ℕ) (call : Call) (at : Shot) (number : ℕ) (pin : PinFacts) → number ≡ (state_of old).made → at ≡ shot (state_of old) at.version
    → log.items ≡ old.log.items ++ event_of caller call (Pinned number at.version) ∷ [] → Admits (state_of old) (event_of caller call (Pinned number at.version))
    → pin ≡ record { number = number; caller = caller; version = at.version; design = at.design }
    → Pins (story_of old) (record { opening = old.opening.design; events = log.items }) caller call pin
pins_made old log caller call at number pin first is added admits made =
    subst (λ (p : PinFacts). Pins (story_of old) (record { opening = old.opening.design; events = log.items }) caller call p) (sym made) (record {
      caller_is = refl;
      adds = record { opening = refl; events = added; admits = admits };
      is_pin = record {
        live = subst (λ (t : State). IsLive t number caller at.version) (sym now)
            (subst (λ (n : ℕ). Contains (s.pins ++ live_pin s.made caller at.version ∷ []) (live_pin n caller at.version)) (sym first) (Contains-push s.pins (live_pin s.made caller at.version)));
        design = ap (λ (k : Shot). k.design) is ∙ sym (ap (λ (t : State). design t at.version) now);
      };
    })
  where
    s : State
    s = state_of old

    now : state_after old.opening.design log.items ≡ counted (pinned s caller at.version)
    now = ap (λ (xs : List Event). state_after old.opening.design xs) added ∙ state_after-push old.opening.design old.log.items (event_of caller call (Pinned number at.version))
