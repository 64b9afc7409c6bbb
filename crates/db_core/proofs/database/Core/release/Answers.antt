use Rattle.std.proofs.Common.{◌≡◌, ◌+◌, ◌≤◌, length, refl, arith, ap, sym, subst, ◌∙◌, length-append, vec_capacity, List, [], ◌∷◌, ◌++◌, Contains, ℕ}
use Rattle.pin_registry.specs.Registry.{LivePin as HeldPin, without_pin}
use Rattle.db_spec.specs.declared.event.Event.{Event}
use Rattle.db_spec.specs.declared.event.Call.TheVariants.{Release}
use Rattle.db_spec.specs.declared.event.Answer.TheVariants.{Released}
use Rattle.db_spec.specs.State.{State, LivePin, IsLive, live_pin, released}
use Rattle.db_spec.proofs.Lists.{one_goes}
use Rattle.db_spec.proofs.Sound.{kept_up_after}
use Rattle.db_core.specs.Calls.{event_of}
use Rattle.db_core.specs.Story.{Story, state}
use Rattle.db_core.specs.Inside.{held}
use Rattle.db_core.proofs.Shots.{in_map}
use Rattle.db_core.proofs.Steps.{core_adds, stands_released, state_of}
use Rattle.db_core.proofs.database.Core.release.Goals as goal

pub remove-requires : goal.remove-requires
remove-requires c =
    let s : State = state_of c.self.inside in
    let h = c.self.invariant.stands in
    let pin = c.args.pin in
    let live : IsLive s pin.number pin.caller pin.version = subst (λ (st : Story). IsLive (state st) pin.number pin.caller pin.version) (sym c.self.view_is) c.requires in (
      pin.version,
      subst (λ (n : ℕ). Contains c.self.inside.pins.live (held (live_pin n pin.caller pin.version))) (sym c.number-number.ensures)
          (subst (λ (ps : List HeldPin). Contains ps (held (live_pin pin.number pin.caller pin.version))) (sym h.live) (in_map held (live_pin pin.number pin.caller pin.version) s.pins live)),
    )

pub invariant_of-self : goal.invariant_of-self
invariant_of-self c =
    let s : State = state_of c.self.inside in
    let h = c.self.invariant.stands in
    let pin = c.args.pin in
    let event : Event = event_of pin.caller (Release pin.number) Released in
    let live : IsLive s pin.number pin.caller pin.version = subst (λ (st : Story). IsLive (state st) pin.number pin.caller pin.version) (sym c.self.view_is) c.requires in
    let added : c.push_reserved.new.self.items ≡ c.self.inside.log.items ++ event ∷ [] =
    c.push_reserved.ensures.items ∙ (ap (λ (n : ℕ). c.self.inside.log.items ++ event_of c.caller-caller.result (Release n) Released ∷ []) c.number-number.ensures
    ∙ ap (λ (n : ℕ). c.self.inside.log.items ++ event_of n (Release pin.number) Released ∷ []) c.caller-caller.ensures) in
    let long : length c.push_reserved.new.self.items ≡ length c.self.inside.log.items + 1 = ap length added ∙ length-append c.self.inside.log.items (event ∷ []) in
    let fine = (kept_up_after c.self.inside.opening.design c.self.inside.log.items c.self.invariant.history.legal).fine in
    let less : length (released s pin.number).pins + 1 ≡ length s.pins = one_goes (λ (p : LivePin). p.number) pin.number s.pins (live_pin pin.number pin.caller pin.version) fine.rising live refl in
    let before = h.places in
    let places : length c.push_reserved.new.self.items + length (released s pin.number).pins ≤ vec_capacity c.push_reserved.new.self = omega (arith, c.push_reserved.ensures.capacity) in
    let gone : c.remove.new.self ≡ without_pin c.self.inside.pins pin.number = c.remove.ensures ∙ ap (without_pin c.self.inside.pins) c.number-number.ensures in
    core_adds c.self.inside _ event c.self.invariant refl added (record { room = tt; callers = (pin.version, live); answers = tt }) tt
    (stands_released c.self.inside s pin.number c.remove.new.self c.push_reserved.new.self h gone places)
