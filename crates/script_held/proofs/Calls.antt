-- What the calls of a pass make of its part of the history.
use Rattle.std.proofs.Common.{◌≡◌, ◌∙◌, ℕ, List, [], ◌∷◌, ◌++◌, Some, None, map, refl, ap, sym, subst, append-nil}
use Rattle.db_spec.specs.declared.event.Answer.{Answer}
use Rattle.db_spec.specs.declared.event.Call.{Call}
use Rattle.db_spec.specs.declared.event.Answer.TheVariants.{Released}
use Rattle.db_spec.specs.declared.event.Call.TheVariants.{Release}
use Rattle.db_spec.specs.declared.event.Event.{Event}
use Rattle.turn_cell.specs.Seats.{entries_of}
use Rattle.script_spec.specs.Session.{Exchange, Told, last_release, release}
use Rattle.script_run_spec.specs.Calls.{Makes}
use Rattle.script_run_spec.proofs.OneLine.{makes_nothing}
use Rattle.edit_tx.specs.Facts.{PinFacts}
use Rattle.db_core.specs.Calls.{event_of}
use Rattle.db_share.specs.Passes.{Shared, Pass, HasPin, IsReady, maker}
use Rattle.db_share.specs.Calls.{GoesOn, HasReleased, Makes as MakesEvent}
use Rattle.db_share.proofs.Own.{rest_own}
use Rattle.script_held.specs.Holding.{IsHeldBy, held_of, pin_held}
use Rattle.script_held.specs.declared.held.Held.{Held}
use Rattle.script_held.specs.declared.held.Held.TheVariants as held

-- a call and its answer, of an event
abbrev pub asked : Event → Exchange
asked event = Told event.call event.answer

-- what a pass has more of its own after a call, as its part of the history
pub calls_made : (db : Shared) (old new : Pass) (more : List Event) → IsReady db old → GoesOn db old new → new.own ≡ old.own ++ more → Makes db.base old.number old.seen new.seen (map asked more)
calls_made db old new more ready on own =
    let all : entries_of maker old.number (old.seen ++ on.seen.0) ≡ old.own ++ more =
    ap (entries_of maker old.number) on.seen.1 ∙ ap (λ (n : ℕ). entries_of maker n new.seen) (sym on.number) ∙ sym on.ready.own ∙ own in record {
      legal = on.ready.history.legal;
      more = on.seen.0;
      on = sym on.seen.1;
      own = ap (map asked) (rest_own old.number old.seen on.seen.0 old.own more ready.own all);
    }

pub one_call : (db : Shared) (old new : Pass) (call : Call) (answer : Answer) → IsReady db old → MakesEvent db old new call answer → Makes db.base old.number old.seen new.seen (Told call answer ∷ [])
one_call db old new call answer ready m = calls_made db old new (event_of old.number call answer ∷ []) ready m.on m.own

-- no call was made, and the pass is the same
pub stays : (db : Shared) (pass : Pass) → IsReady db pass → GoesOn db pass pass
stays db pass ready = record { ready = ready; number = refl; seen = ([], append-nil pass.seen) }

-- ---- the release of what is held

pub held_pin : (db : Shared) (pass : Pass) (h : Held) (pin : PinFacts) → pin_held h ≡ Some pin → IsHeldBy db pass h → HasPin db pass pin
held_pin db pass held.Nothing pin is mine = absurd (cc (is))
held_pin db pass (held.OnPin p) pin is mine = let same : p ≡ pin = cc (is) in subst (λ (q : PinFacts). HasPin db pass q) same mine
held_pin db pass held.OffPin pin is mine = absurd (cc (is))
held_pin db pass (held.InBlock block) pin is mine = let same : block.tx.pin ≡ pin = cc (is) in subst (λ (q : PinFacts). HasPin db pass q) same mine

one_release : (h : Held) (pin : PinFacts) → pin_held h ≡ Some pin → release pin.number ∷ [] ≡ last_release (held_of h)
one_release held.Nothing pin is = absurd (cc (is))
one_release (held.OnPin p) pin is = let same : pin ≡ p = cc (is) in ap (λ (q : PinFacts). release q.number ∷ []) same
one_release held.OffPin pin is = absurd (cc (is))
one_release (held.InBlock block) pin is = let same : pin ≡ block.tx.pin = cc (is) in ap (λ (q : PinFacts). release q.number ∷ []) same

no_release : (h : Held) → pin_held h ≡ None → last_release (held_of h) ≡ []
no_release held.Nothing is = refl
no_release (held.OnPin p) is = absurd (cc (is))
no_release held.OffPin is = refl
no_release (held.InBlock block) is = absurd (cc (is))

pub let_go_some : (db : Shared) (old new : Pass) (h : Held) (pin : PinFacts) → IsReady db old → pin_held h ≡ Some pin → HasReleased db old new pin
    → Makes db.base old.number old.seen new.seen (last_release (held_of h))
let_go_some db old new h pin ready is r =
    subst (λ (done : List Exchange). Makes db.base old.number old.seen new.seen done) (one_release h pin is) (one_call db old new (Release pin.number) Released ready r)

pub let_go_none : (db : Shared) (pass : Pass) (h : Held) → IsReady db pass → pin_held h ≡ None → Makes db.base pass.number pass.seen pass.seen (last_release (held_of h))
let_go_none db pass h ready is =
    subst (λ (done : List Exchange). Makes db.base pass.number pass.seen pass.seen done) (sym (no_release h is)) (makes_nothing db.base pass.number pass.seen ready.history.legal)
