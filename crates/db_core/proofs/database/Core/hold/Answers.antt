use Rattle.std.proofs.Common.{◌≡◌, ℕ, ◌+◌, ◌≤◌, length, refl, arith, ap, sym, subst, ◌∙◌, length-append, vec_capacity, List, [], ◌∷◌, ◌++◌}
use Rattle.pin_registry.specs.Registry.{Registry, with_pin}
use Rattle.db_spec.specs.declared.event.Event.{Event}
use Rattle.db_spec.specs.declared.event.Answer.TheVariants.{Pinned}
use Rattle.db_spec.specs.State.{State}
use Rattle.db_spec.specs.Answers.{Admits, HasPlaces}
use Rattle.db_spec.proofs.Sound.{kept_up_after}
use Rattle.db_core.specs.Calls.{Pins, event_of}
use Rattle.db_core.specs.Story.{Story, shot, state}
use Rattle.db_core.specs.Inside.{IsCore}
use Rattle.db_core.proofs.Pins.{few_held}
use Rattle.db_core.proofs.Steps.{roomy, core_adds, stands_pinned, pins_made, state_of}
use Rattle.db_core.proofs.database.Core.hold.Goals as goal
use Rattle.db_core.proofs.database.Core.hold.Goals.{After-of}

pub invariant_of-self : goal.invariant_of-self
invariant_of-self c = roomy c.self.inside c.make_room.new.items c.self.invariant c.make_room.ensures.items c.make_room.ensures.capacity

pub add-requires : goal.add-requires
add-requires c =
    let s : State = state_of c.self.inside in
    let h = c.self.invariant.stands in
    let up = kept_up_after c.self.inside.opening.design c.self.inside.log.items c.self.invariant.history.legal in
    let made = up.made in
    let same = h.made in
    let places : HasPlaces s 2 = subst (λ (st : Story). HasPlaces (state st) 2) (sym c.self.view_is) c.requires.places in
    omega arith

pub invariant_of-self-in_err-number : goal.invariant_of-self-in_err-number
invariant_of-self-in_err-number c =
    let same : c.add.new.self ≡ c.self.inside.pins = c.in_err-number.ensures.err in
    subst (λ (ps : Registry). IsCore (record (c.self.inside) { pins = ps; log = c.make_room.new.items })) (sym same)
    (roomy c.self.inside c.make_room.new.items c.self.invariant c.make_room.ensures.items c.make_room.ensures.capacity)

-- the number is the next one, and the event says so
number_is : (c : After-of) → c.in_ok-number.number ≡ (state_of c.self.inside).made
number_is c = let h = c.self.invariant.stands in c.in_ok-number.ensures.ok.0 ∙ h.made

added : (c : After-of) (log : List Event) → log ≡ c.make_room.new.items.items ++ event_of c.args.caller c.args.call (Pinned c.in_ok-number.number c.version-version.result) ∷ []
    → log ≡ c.self.inside.log.items ++ event_of c.args.caller c.args.call (Pinned c.in_ok-number.number c.args.at.version) ∷ []
added c log is =
    is ∙ (ap (λ (xs : List Event). xs ++ event_of c.args.caller c.args.call (Pinned c.in_ok-number.number c.version-version.result) ∷ []) c.make_room.ensures.items
    ∙ ap (λ (v : ℕ). c.self.inside.log.items ++ event_of c.args.caller c.args.call (Pinned c.in_ok-number.number v) ∷ []) c.version-version.ensures)

admits : (c : After-of) → Admits (state_of c.self.inside) (event_of c.args.caller c.args.call (Pinned c.in_ok-number.number c.args.at.version))
admits c =
    let s : State = state_of c.self.inside in
    subst (λ (n : ℕ). Admits s (event_of c.args.caller c.args.call (Pinned n c.args.at.version))) (sym (number_is c))
    (subst (λ (st : Story). Admits (state st) (event_of c.args.caller c.args.call (Pinned (state st).made c.args.at.version))) (sym c.self.view_is) c.requires.admits)

pub invariant_of-self-2 : goal.invariant_of-self-2
invariant_of-self-2 c =
    let s : State = state_of c.self.inside in
    let h = c.self.invariant.stands in
    let event : Event = event_of c.args.caller c.args.call (Pinned c.in_ok-number.number c.args.at.version) in
    let log = added c c.push_reserved.new.self.items c.push_reserved.ensures.items in
    let long : length c.push_reserved.new.self.items ≡ length c.self.inside.log.items + 1 = ap length log ∙ length-append c.self.inside.log.items (event ∷ []) in
    let items : length c.make_room.new.items.items ≡ length c.self.inside.log.items = ap length c.make_room.ensures.items in
    let live : length c.self.inside.pins.live ≡ length s.pins = ap length h.live ∙ few_held s.pins in
    let places : length c.push_reserved.new.self.items + (length s.pins + 1) ≤ vec_capacity c.push_reserved.new.self = omega (arith, c.in_ok-make_room.ensures.room, c.live.ensures, c.push_reserved.ensures.capacity) in
    let pins : c.add.new.self ≡ with_pin c.self.inside.pins c.args.at.version = c.in_ok-number.ensures.ok.1 ∙ ap (λ (v : ℕ). with_pin c.self.inside.pins v) c.version-version.ensures in
    core_adds c.self.inside _ event c.self.invariant refl log (admits c) c.requires.typed
    (stands_pinned c.self.inside s c.args.caller c.args.at.version c.add.new.self c.push_reserved.new.self h pins places)

pub returns-clause-ok : goal.returns-clause-ok
returns-clause-ok c =
    let log = added c c.push_reserved.new.self.items c.push_reserved.ensures.items in
    let shot_is : c.args.at ≡ shot (state_of c.self.inside) c.args.at.version = subst (λ (st : Story). c.args.at ≡ shot (state st) c.args.at.version) (sym c.self.view_is) c.requires.shot in
    subst (λ (st : Story). Pins st (record { opening = c.self.inside.opening.design; events = c.push_reserved.new.self.items }) c.args.caller c.args.call c.of.result) c.self.view_is
    (pins_made c.self.inside c.push_reserved.new.self c.args.caller c.args.call c.args.at c.in_ok-number.number c.of.result (number_is c) shot_is log (admits c) c.of.ensures)
