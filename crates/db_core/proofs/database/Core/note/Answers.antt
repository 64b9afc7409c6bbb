use Rattle.std.proofs.Common.{◌≡◌, ◌+◌, ◌≤◌, length, refl, arith, ap, sym, subst, ◌∙◌, length-append, vec_capacity, List, [], ◌∷◌, ◌++◌}
use Rattle.db_spec.specs.declared.event.Event.{Event}
use Rattle.db_spec.specs.State.{State, changed}
use Rattle.db_spec.specs.Answers.{Admits}
use Rattle.db_core.specs.Story.{Story, state}
use Rattle.db_core.proofs.Pins.{few_held}
use Rattle.db_core.proofs.Steps.{roomy, core_adds, stands_noted, state_of}
use Rattle.db_core.proofs.database.Core.note.Goals as goal

pub invariant_of-self : goal.invariant_of-self
invariant_of-self c = roomy c.self.inside c.make_room.new.items c.self.invariant c.make_room.ensures.items c.make_room.ensures.capacity

pub invariant_of-self-2 : goal.invariant_of-self-2
invariant_of-self-2 c =
    let s : State = state_of c.self.inside in
    let h = c.self.invariant.stands in
    let event : Event = c.args.event in
    let admits : Admits s event = subst (λ (st : Story). Admits (state st) event) (sym c.self.view_is) c.requires.admits in
    let same : changed s event.caller event.call event.answer ≡ s = subst (λ (st : Story). changed (state st) event.caller event.call event.answer ≡ state st) (sym c.self.view_is) c.requires.same in
    let added : c.push_reserved.new.self.items ≡ c.self.inside.log.items ++ event ∷ [] = c.push_reserved.ensures.items ∙ ap (λ (xs : List Event). xs ++ event ∷ []) c.make_room.ensures.items in
    let long : length c.push_reserved.new.self.items ≡ length c.self.inside.log.items + 1 = ap length added ∙ length-append c.self.inside.log.items (event ∷ []) in
    let items : length c.make_room.new.items.items ≡ length c.self.inside.log.items = ap length c.make_room.ensures.items in
    let live : length c.self.inside.pins.live ≡ length s.pins = ap length h.live ∙ few_held s.pins in
    let places : length c.push_reserved.new.self.items + length s.pins ≤ vec_capacity c.push_reserved.new.self = omega (arith, c.in_ok-make_room.ensures.room, c.live.ensures, c.push_reserved.ensures.capacity) in
    core_adds c.self.inside _ event c.self.invariant refl added admits c.requires.typed (stands_noted c.self.inside s event c.push_reserved.new.self h same places)
