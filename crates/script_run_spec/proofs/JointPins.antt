-- Who holds the pins of a history: callers of its events, and not those who released theirs and then called no more.
use Rattle.std.proofs.Common.{◌≡◌, ◌∙◌, ℕ, ◌<◌, ◌==◌, not, true, List, [], ◌∷◌, ◌++◌, length, filter, Contains, inl, inr, refl, ap, sym, subst, arith}
use Rattle.std.specs.List.{All}
use Rattle.std.proofs.lemmas.Bool.Decides.{nat_tests}
use Rattle.std.proofs.lemmas.List.{length-map}
use Rattle.std.proofs.lemmas.List.Elements.{Contains-push_cases}
use Rattle.netlist_schema.specs.Design.{Design}
use Rattle.db_spec.specs.declared.event.Call.{Call}
use Rattle.db_spec.specs.declared.event.Call.TheVariants.{Release, Collect, Commit}
use Rattle.db_spec.specs.declared.event.Answer.{Answer}
use Rattle.db_spec.specs.declared.event.Answer.TheVariants.{Pinned, Released, Collected, Committed}
use Rattle.db_spec.specs.declared.event.Event.{Event}
use Rattle.db_spec.specs.State.{State, LivePin, IsLive, live_pin, opening, changed, after}
use Rattle.db_spec.specs.History.{state_from, state_after}
use Rattle.db_spec.proofs.Histories.{state_from-append}
use Rattle.db_spec.proofs.Lists.{in_head, in_tail, from_filter, to_filter}
use Rattle.script_spec.specs.Headline.{HoldsNone}
use Rattle.script_spec.specs.Session.{Told, exchanges}

-- the callers of all live pins are such
abbrev PinsOf : (ℕ → Type 0) → State → Type 0
PinsOf P s = (number caller v : ℕ) → IsLive s number caller v → P caller

pins_changed : (P : ℕ → Type 0) (s : State) (caller : ℕ) (call : Call) (answer : Answer) → P caller → PinsOf P s → PinsOf P (changed s caller call answer)
pins_changed P s caller call (Pinned number v) p all = λ n c w live. elim (Contains-push_cases s.pins (live_pin s.made caller v) (live_pin n c w) live) [
  | inl old ↦ all n c w old
  | inr is ↦ subst P (ap (λ (pin : LivePin). pin.caller) is) p
]
pins_changed P s caller (Release number) Released p all = λ n c w live. all n c w (from_filter (λ (pin : LivePin). not (pin.number == number)) s.pins (live_pin n c w) live)
pins_changed P s caller Collect (Collected count) p all = all
pins_changed P s caller (Commit number ops) (Committed v replies) p all = all
pins_changed P s caller call answer p all = all

-- along events whose callers are such
pins_from : (P : ℕ → Type 0) (s : State) (events : List Event) → PinsOf P s → ((event : Event) → Contains events event → P event.caller) → PinsOf P (state_from s events)
pins_from P s [] all each = all
pins_from P s (event ∷ events) all each =
    pins_from P (after s event) events (pins_changed P s event.caller event.call event.answer (each event (in_head event events)) all)
    (λ other m. each other (in_tail event other events m))

of_each : {X : Type 0} (P : X → Type 0) (xs : List X) → All P xs → (x : X) → Contains xs x → P x
of_each P xs all x m = subst P m.2 (all m.0 x m.1)

-- a live pin is that of a caller of some event
pub callers_pins : (d : Design) (history : List Event) (count number caller v : ℕ) → All (λ (event : Event). event.caller < count) history
    → IsLive (state_after d history) number caller v → caller < count
callers_pins d history count number caller v callers live =
    pins_from (λ c. c < count) (opening d) history (λ n c w m. absurd (omega (arith, m.1))) (of_each (λ (event : Event). event.caller < count) history callers) number caller v live

same_test : (m n : ℕ) → m ≡ n → (m == n) ≡ true
same_test m n e = grind (arith, nat_tests)

-- an event is not the caller's, of whom there is none
not_later : (caller : ℕ) (later : List Event) → exchanges caller later ≡ [] → (event : Event) → Contains later event → event.caller ≡ caller → ⊥
not_later caller later none event m is =
    let there = to_filter (λ (e : Event). e.caller == caller) later event (same_test event.caller caller is) m in
    let less : there.0 < length (filter (λ (e : Event). e.caller == caller) later) = there.1 in
    let long : length (filter (λ (e : Event). e.caller == caller) later) ≡ 0 = sym (length-map (filter (λ (e : Event). e.caller == caller) later) (λ (e : Event). Told e.call e.answer)) ∙ ap length none in
    absurd (omega (arith, less, long))

-- a caller who holds no pin and then calls no more holds none later
pub holds_none_later : (d : Design) (seen later : List Event) (caller : ℕ) → HoldsNone d seen caller → exchanges caller later ≡ [] → HoldsNone d (seen ++ later) caller
holds_none_later d seen later caller none quiet number v live =
    let before : PinsOf (λ c. c ≡ caller → ⊥) (state_after d seen) = λ n c w m is. none n w (subst (λ (k : ℕ). IsLive (state_after d seen) n k w) is m) in
    pins_from (λ c. c ≡ caller → ⊥) (state_after d seen) later before (not_later caller later quiet) number caller v
    (subst (λ (s : State). IsLive s number caller v) (state_from-append (opening d) seen later) live) refl

-- no pin is live
pub no_pins : (pins : List LivePin) → ((number caller v : ℕ) → Contains pins (live_pin number caller v) → ⊥) → length pins ≡ 0
no_pins [] none = refl
no_pins (pin ∷ pins) none = absurd (none pin.number pin.caller pin.version (in_head pin pins))
