use Rattle.std.proofs.Common.{◌≡◌, ℕ, ◌+◌, ◌-◌, ◌≤◌, ◌==◌, ◌||◌, length, filter, not, refl, arith, ap, sym, subst, ◌∙◌, length-append, vec_capacity, List, [], ◌∷◌, ◌++◌, rules}
use Rattle.std.specs.List.{list_any}
use Rattle.std.proofs.lemmas.List.{length-map}
use Rattle.std.proofs.lemmas.List.Filters.{length-filter_both}
use Rattle.pin_registry.specs.Registry.{LivePin as HeldPin}
use Rattle.db_version.specs.Shot.{Shot}
use Rattle.db_spec.specs.declared.event.Event.{Event}
use Rattle.db_spec.specs.declared.event.Call.TheVariants.{Collect}
use Rattle.db_spec.specs.declared.event.Answer.TheVariants.{Collected}
use Rattle.db_spec.specs.State.{State, head, stays}
use Rattle.db_spec.specs.Answers.{Admits, HasPlaces, dropped}
use Rattle.db_spec.proofs.Sound.{is_sound, kept_up_after}
use Rattle.db_core.specs.Calls.{Adds, event_of}
use Rattle.db_core.specs.Story.{Story, shot, state}
use Rattle.db_core.proofs.Pins.{few_held, any_held}
use Rattle.db_core.proofs.Steps.{roomy, core_adds, stands_collected, kept_after, state_of}
use Rattle.db_core.proofs.database.Core.collect_into.Goals as goal
use Rattle.db_core.proofs.database.Core.collect_into.Goals.{After-push_reserved}

pub invariant_of-self : goal.invariant_of-self
invariant_of-self c = roomy c.self.inside c.make_room.new.items c.self.invariant c.make_room.ensures.items c.make_room.ensures.capacity

pub overflow_cast-dropped : goal.overflow_cast-dropped
overflow_cast-dropped c =
    let s = state_of c.self.inside in
    let legal = c.self.invariant.history.legal in
    let few = (is_sound c.self.inside.opening.design c.self.inside.log.items legal).few_kept in
    let within = (kept_up_after c.self.inside.opening.design c.self.inside.log.items legal).within in
    let kept = ap length c.self.invariant.stands.versions in
    omega (arith, c.len-before.ensures, c.len.ensures, length-map s.kept (shot s))

-- the versions that are left are those that stay
left : (c : After-push_reserved) (new : List Shot)
    → new ≡ filter (λ (kept : Shot). (kept.version == c.self.inside.head.version) || list_any (λ (pin : HeldPin). pin.version == kept.version) c.self.inside.pins.live) c.self.inside.versions.items
    → new ≡ filter (λ (k : Shot). stays (state_of c.self.inside) k.version) c.self.inside.versions.items
left c new is =
    let s : State = state_of c.self.inside in
    let h = c.self.invariant.stands in
    is ∙ (ap (λ (n : ℕ). filter (λ (k : Shot). (k.version == n) || list_any (λ (pin : HeldPin). pin.version == k.version) c.self.inside.pins.live) c.self.inside.versions.items) (ap (λ (x : Shot). x.version) h.head_is)
    ∙ (ap (λ (ps : List HeldPin). filter (λ (k : Shot). (k.version == head s) || list_any (λ (pin : HeldPin). pin.version == k.version) ps) c.self.inside.versions.items) h.live
    ∙ λ i. filter (λ (k : Shot). (k.version == head s) || any_held k.version s.pins i) c.self.inside.versions.items))

kept_is : (c : After-push_reserved) (head : ℕ) (new : List Shot) → head ≡ c.self.inside.head.version
    → new ≡ filter (λ (kept : Shot). (kept.version == head) || list_any (λ (pin : HeldPin). pin.version == kept.version) c.self.inside.pins.live) c.self.inside.versions.items
    → new ≡ filter (λ (k : Shot). stays (state_of c.self.inside) k.version) c.self.inside.versions.items
kept_is c head new same is = left c new (is ∙ ap (λ (n : ℕ). filter (λ (k : Shot). (k.version == n) || list_any (λ (pin : HeldPin). pin.version == k.version) c.self.inside.pins.live) c.self.inside.versions.items) same)

-- how many are dropped
admits : (c : After-push_reserved) (count : ℕ) (versions : List Shot) → versions ≡ filter (λ (k : Shot). stays (state_of c.self.inside) k.version) c.self.inside.versions.items
    → count ≡ length c.self.inside.versions.items - length versions → HasPlaces (state_of c.self.inside) 1 → Admits (state_of c.self.inside) (event_of c.args.caller Collect (Collected count))
admits c count versions is counts room =
    let s : State = state_of c.self.inside in
    let h = c.self.invariant.stands in
    let kept = ap length (kept_after c.self.inside s versions h is) in
    let old = ap length h.versions in
    let parts = length-filter_both (stays s) (λ v. not (stays s v)) (λ v. refl) s.kept in
    let told : count ≡ dropped s = omega (arith, length-map (filter (stays s) s.kept) (shot s), length-map s.kept (shot s)) in
    record { room = room; callers = tt; answers = told }

room_is : (c : After-push_reserved) → HasPlaces (state c.args.self.now) 1 → HasPlaces (state_of c.self.inside) 1
room_is c room = subst (λ (st : Story). HasPlaces (state st) 1) (sym c.self.view_is) room

pub invariant_of-self-2 : goal.invariant_of-self-2
invariant_of-self-2 c =
    let s : State = state_of c.self.inside in
    let h = c.self.invariant.stands in
    let event : Event = event_of c.args.caller Collect (Collected (c.len-before.result - c.len.result)) in
    let room : HasPlaces s 1 = room_is c (search rules) in
    let versions = kept_is c c.version.result c.keep_held.new.versions.items c.version.ensures c.keep_held.ensures.items in
    let log : c.push_reserved.new.self.items ≡ c.self.inside.log.items ++ event ∷ [] = c.push_reserved.ensures.items ∙ ap (λ (xs : List Event). xs ++ event ∷ []) c.make_room.ensures.items in
    let long : length c.push_reserved.new.self.items ≡ length c.self.inside.log.items + 1 = ap length log ∙ length-append c.self.inside.log.items (event ∷ []) in
    let items : length c.make_room.new.items.items ≡ length c.self.inside.log.items = ap length c.make_room.ensures.items in
    let live : length c.self.inside.pins.live ≡ length s.pins = ap length h.live ∙ few_held s.pins in
    let places : length c.push_reserved.new.self.items + length s.pins ≤ vec_capacity c.push_reserved.new.self = omega (arith, c.in-Ok-make_room.ensures.room, c.live.ensures, c.push_reserved.ensures.capacity) in
    core_adds c.self.inside _ event c.self.invariant refl log
    (admits c (c.len-before.result - c.len.result) c.keep_held.new.versions.items versions (omega (arith, c.len-before.ensures, c.len.ensures)) room) tt
    (stands_collected c.self.inside s c.keep_held.new.versions c.push_reserved.new.self h versions places)

pub returns : goal.returns
returns c =
    let event : Event = event_of c.args.caller Collect (Collected (c.len-before.result - c.len.result)) in
    let room = room_is c (search rules) in
    let versions = kept_is c c.version.result c.keep_held.new.versions.items c.version.ensures c.keep_held.ensures.items in
    let log : c.push_reserved.new.self.items ≡ c.self.inside.log.items ++ event ∷ [] = c.push_reserved.ensures.items ∙ ap (λ (xs : List Event). xs ++ event ∷ []) c.make_room.ensures.items in
    subst (λ (st : Story). Adds st (record { opening = c.self.inside.opening.design; events = c.push_reserved.new.self.items }) event) c.self.view_is
    (record { opening = refl; events = log; admits = admits c (c.len-before.result - c.len.result) c.keep_held.new.versions.items versions (omega (arith, c.len-before.ensures, c.len.ensures)) room })
