use Rattle.std.proofs.Common.{◌≡◌, ◌↔◌, ℕ, ◌+◌, ◌≤◌, length, refl, arith, ap, sym, subst, ◌∙◌, length-append, vec_capacity, List, [], ◌∷◌, ◌++◌, Contains}
use Rattle.netlist_schema.specs.Design.{Design}
use Rattle.netlist_schema.specs.Types.{Object}
use Rattle.edit_spec.specs.Needs.{Reads, Written}
use Rattle.edit_spec.specs.Frame.{IsReplayed}
use Rattle.edit_rules_spec.specs.Objects.{AgreesOn, Grown, IsClosed}
use Rattle.edit_spec.specs.Step.{run}
use Rattle.edit_spec.specs.declared.ops.Op.{Op}
use Rattle.edit_rules_spec.specs.declared.reply.Reply.{Reply}
use Rattle.edit_rules_spec.proofs.Closed.{valid_is_closed}
use Rattle.edit_tx.specs.Facts.{PinFacts}
use Rattle.db_version.specs.Shot.{Shot}
use Rattle.conflict_check.specs.Commits.{IsMarked}
use Rattle.db_spec.specs.declared.event.Event.{Event}
use Rattle.db_spec.specs.declared.event.Call.TheVariants.{Commit}
use Rattle.db_spec.specs.declared.event.Answer.TheVariants.{Committed}
use Rattle.db_spec.specs.State.{State, design, head, opening}
use Rattle.db_spec.specs.Answers.{Admits, HasNoConflict, HasPlaces}
use Rattle.db_spec.proofs.Histories.{goes_on_from}
use Rattle.db_spec.proofs.Sound.{kept_up_after}
use Rattle.db_spec.proofs.Versions.{follows_after, replayed}
use Rattle.db_core.specs.declared.database.Core.TheInside.{Inside}
use Rattle.db_core.specs.Calls.{Accepts, commit_event, event_of}
use Rattle.db_core.specs.Story.{Story, IsPinOf, state}
use Rattle.db_core.specs.Inside.{IsCore, story_of}
use Rattle.db_core.proofs.Pins.{few_held}
use Rattle.db_core.proofs.Steps.{roomier, core_adds, state_of}
use Rattle.db_core.proofs.Commits.{agrees_head, grown_head, stands_committed}
use Rattle.db_core.proofs.Staying.{pinned_there}
use Rattle.db_core.proofs.database.Core.accept.Goals as goal
use Rattle.db_core.proofs.database.Core.accept.Goals.{After-push_reserved-2}

-- ---- over the fields

grown_is : (i : Inside) (pin : PinFacts) → IsCore i → IsPinOf (story_of i) pin → Grown pin.design i.head.design
grown_is i pin core is =
    let h = core.stands in
    subst (λ (d : Design). Grown d i.head.design) (sym is.design)
    (subst (λ (x : Shot). Grown (design (state_of i) pin.version) x.design) (sym h.head_is) (grown_head i.opening.design i.log.items pin.version (pinned_there (story_of i) pin core.history.legal is)))

agree_is : (i : Inside) (pin : PinFacts) (ops : List Op) → IsCore i → IsPinOf (story_of i) pin → HasNoConflict (state_of i) pin.version ops → AgreesOn pin.design i.head.design (Reads pin.design ops)
agree_is i pin ops core is free =
    let h = core.stands in
    subst (λ (d : Design). AgreesOn d i.head.design (Reads d ops)) (sym is.design)
    (subst (λ (x : Shot). AgreesOn (design (state_of i) pin.version) x.design (Reads (design (state_of i) pin.version) ops)) (sym h.head_is)
    (agrees_head i.opening.design i.log.items pin.version ops (valid_is_closed i.opening.design core.history.valid) (pinned_there (story_of i) pin core.history.legal is) free))

-- a pin of the last version has its design
same_is : (i : Inside) (pin : PinFacts) → IsCore i → IsPinOf (story_of i) pin → pin.version ≡ i.head.version → pin.design ≡ i.head.design
same_is i pin core is at =
    is.design
    ∙ (ap (λ (v : ℕ). design (state_of i) v) (at ∙ ap (λ (x : Shot). x.version) core.stands.head_is) ∙ sym (ap (λ (x : Shot). x.design) core.stands.head_is))

replayed_is : (i : Inside) (pin : PinFacts) (ops : List Op) → IsCore i → IsPinOf (story_of i) pin → HasNoConflict (state_of i) pin.version ops → IsReplayed pin.design (design (state_of i) (head (state_of i))) ops
replayed_is i pin ops core is free =
    let closed : IsClosed (state_of i).first = subst IsClosed (sym ((goes_on_from (opening i.opening.design) i.log.items).first)) (valid_is_closed i.opening.design core.history.valid) in
    subst (λ (d : Design). IsReplayed d (design (state_of i) (head (state_of i))) ops) (sym is.design)
    (replayed (state_of i) (follows_after i.opening.design i.log.items) closed pin.version ops (pinned_there (story_of i) pin core.history.legal is) free)

admits_is : (i : Inside) (pin : PinFacts) (ops : List Op) (replies : List Reply) (last : ℕ) → IsCore i → HasPlaces (state_of i) 1 → IsPinOf (story_of i) pin → HasNoConflict (state_of i) pin.version ops
    → replies ≡ (run pin.design ops).replies → last ≡ head (state_of i) + 1 → Admits (state_of i) (event_of pin.caller (Commit pin.number ops) (Committed last replies))
admits_is i pin ops replies last core room is free told at =
    let same = replayed_is i pin ops core is free in
    record { room = room; callers = (pin.version, is.live); answers = (pin.version, is.live, free, at, told ∙ same.replies) }

-- ---- what the call knows

pub overflow_add-version : goal.overflow_add-version
overflow_add-version c =
    let h = c.self.invariant.stands in
    let up = kept_up_after c.self.inside.opening.design c.self.inside.log.items c.self.invariant.history.legal in
    let within = up.within in
    let versions = up.versions in
    let at_head = ap (λ (x : Shot). x.version) h.head_is in
    omega (arith, c.version-version.ensures)

pub next_version-requires-clause-grown : goal.next_version-requires-clause-grown
next_version-requires-clause-grown c = grown_is c.self.inside c.args.tx.pin c.self.invariant (subst (λ (st : Story). IsPinOf st c.args.tx.pin) (sym c.self.view_is) c.requires.pin)

pub next_version-requires-clause-agree : goal.next_version-requires-clause-agree
next_version-requires-clause-agree c = agree_is c.self.inside c.args.tx.pin c.args.tx.ops c.self.invariant (subst (λ (st : Story). IsPinOf st c.args.tx.pin) (sym c.self.view_is) c.requires.pin)
    (subst (λ (st : Story). HasNoConflict (state st) c.args.tx.pin.version c.args.tx.ops) (sym c.self.view_is) c.requires.free)

pub next_version-requires-clause-one : goal.next_version-requires-clause-one
next_version-requires-clause-one c = same_is c.self.inside c.args.tx.pin c.self.invariant (subst (λ (st : Story). IsPinOf st c.args.tx.pin) (sym c.self.view_is) c.requires.pin)

pub invariant_of-self-in_default-make_room-2 : goal.invariant_of-self-in_default-make_room-2
invariant_of-self-in_default-make_room-2 c = roomier c.self.inside c.make_room.new.items c.make_room-2.new.items c.self.invariant c.make_room.ensures.items c.make_room-2.ensures.items c.make_room-2.ensures.capacity

-- ---- once the event is added

module _ (c : After-push_reserved-2) where
  abbrev i : Inside
  i = c.self.inside

  abbrev s : State
  s = state_of i

  is_pinned : IsPinOf (story_of i) c.args.tx.pin
  is_pinned = subst (λ (st : Story). IsPinOf st c.args.tx.pin) (sym c.self.view_is) c.requires.pin

  is_free : HasNoConflict s c.args.tx.pin.version c.args.tx.ops
  is_free = subst (λ (st : Story). HasNoConflict (state st) c.args.tx.pin.version c.args.tx.ops) (sym c.self.view_is) c.requires.free

  has_room : HasPlaces s 1
  has_room = subst (λ (st : Story). HasPlaces (state st) 1) (sym c.self.view_is) c.requires.places

  is_next : c.version-version.result + 1 ≡ head s + 1
  is_next = let at_head : i.head.version ≡ head s = ap (λ (x : Shot). x.version) c.self.invariant.stands.head_is in omega (arith, c.version-version.ensures)

  abbrev event : Event
  event = commit_event c.args.tx (Committed (c.version-version.result + 1) c.args.tx.replies)

  is_logged : c.push_reserved-2.new.self.items ≡ i.log.items ++ event ∷ []
  is_logged =
      let pin = c.split-pin.ensures.pin in
      c.push_reserved-2.ensures.items
      ∙ (ap (λ (xs : List Event). xs ++ event_of c.caller.result (Commit c.number.result c.split-pin.result.1) (Committed (c.version-version.result + 1) c.split-pin.result.2) ∷ []) c.make_room-2.ensures.items
      ∙ λ k. i.log.items ++ event_of ((c.caller.ensures ∙ ap (λ (p : PinFacts). p.caller) pin) k) (Commit ((c.number.ensures ∙ ap (λ (p : PinFacts). p.number) pin) k) (c.split-pin.ensures.ops k)) (Committed (c.version-version.result + 1) (c.split-pin.ensures.replies k)) ∷ [])

  is_admitted : Admits s event
  is_admitted = admits_is i c.args.tx.pin c.args.tx.ops c.args.tx.replies (c.version-version.result + 1) c.self.invariant has_room is_pinned is_free c.written.ensures.tried.replies is_next

  writes_same : (o : Object) → Contains c.written.result.now o ↔ Written (design s (head s)) c.args.tx.ops o
  writes_same o =
      let replay = replayed_is i c.args.tx.pin c.args.tx.ops c.self.invariant is_pinned is_free in
      let there = replay.writes o in
      let mine = c.written.ensures.tried.written o in
      subst (λ (xs : List Object). Contains xs o ↔ Written (design s (head s)) c.args.tx.ops o) (sym c.written.ensures.value) (λ m. there.0 (mine.0 m), λ w. mine.1 (there.1 w))

pub invariant_of-self-2 : goal.invariant_of-self-2
invariant_of-self-2 c =
    let i : Inside = c.self.inside in
    let s : State = state_of i in
    let tx = c.args.tx in
    let h = c.self.invariant.stands in
    let log = is_logged c in
    let long : length c.push_reserved-2.new.self.items ≡ length i.log.items + 1 = ap length log ∙ length-append i.log.items (event c ∷ []) in
    let items : length c.make_room-2.new.items.items ≡ length i.log.items = ap length c.make_room-2.ensures.items in
    let live : length i.pins.live ≡ length s.pins = ap length h.live ∙ few_held s.pins in
    let places : length c.push_reserved-2.new.self.items + length s.pins ≤ vec_capacity c.push_reserved-2.new.self = omega (arith, c.in-Ok-make_room-2.ensures.room, c.live.ensures, c.push_reserved-2.ensures.capacity) in
    let next : c.in-Ok.next ≡ record { version = head s + 1; design = (run (design s (head s)) tx.ops).design } =
    c.in-Ok.ensures ∙ λ k. record { version = is_next c k; design = (run ((ap (λ (x : Shot). x.design) h.head_is) k) tx.ops).design } in
    let versions : c.push_reserved.new.self.items ≡ i.versions.items ++ c.in-Ok.next ∷ [] =
    c.push_reserved.ensures.items ∙ (ap (λ (xs : List Shot). xs ++ c.in-Ok-share.kept ∷ []) c.make_room.ensures.items ∙ ap (λ (x : Shot). i.versions.items ++ x ∷ []) c.in-Ok-share.ensures) in
    let fine = (kept_up_after i.opening.design i.log.items c.self.invariant.history.legal).fine in
    let marks : IsMarked i.stamps c.mark.new.self c.written.result.now (head s + 1) = subst (λ (v : ℕ). IsMarked i.stamps c.mark.new.self c.written.result.now v) (is_next c) c.in-Ok-mark.ensures.ok in
    core_adds i _ (event c) c.self.invariant refl log (is_admitted c) c.written.ensures.tried.typed
    (stands_committed i s tx.ops c.push_reserved.new.self c.in-Ok.next c.mark.new.self c.push_reserved-2.new.self c.written.result.now h fine.there versions next marks (writes_same c) places)

pub returns-clause-ok : goal.returns-clause-ok
returns-clause-ok c =
    subst (λ (st : Story). Accepts st (record { opening = c.self.inside.opening.design; events = c.push_reserved-2.new.self.items }) c.args.tx (c.version-version.result + 1) c.split-pin.result.0) c.self.view_is
    (record { pin_is = c.split-pin.ensures.pin; adds = record { opening = refl; events = is_logged c; admits = is_admitted c } })
