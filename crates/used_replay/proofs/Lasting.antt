-- The last version, event by event.
use Rattle.std.proofs.Common.{◌≡◌, ℕ, List, [], ◌∷◌, refl, sym, ap, ◌∙◌}
use Rattle.netlist_schema.specs.Design.{Design}
use Rattle.edit_spec.specs.Step.{run}
use Rattle.edit_spec.specs.declared.ops.Op.{Op}
use Rattle.db_spec.specs.History.{state_after, state_from, version_at}
use Rattle.db_spec.specs.State.{State, after, changed, committed, design, head, opening}
use Rattle.db_spec.specs.declared.event.Answer.{Answer}
use Rattle.db_spec.specs.declared.event.Answer.TheVariants.{Pinned, NoVersion, Gone, Released, Collected, Committed, Conflict}
use Rattle.db_spec.specs.declared.event.Call.{Call}
use Rattle.db_spec.specs.declared.event.Call.TheVariants.{Pin, PinAt, Release, Collect, Commit}
use Rattle.db_spec.specs.declared.event.Event.{Event}
use Rattle.db_spec.proofs.Versions.{head_new, version_new}
use Rattle.used_replay.specs.Replayed.{redone, replayed}

-- the design of the last version
abbrev last : State → Design
last s = design s (head s)

last_committed : (s : State) (ops : List Op) → last (committed s ops) ≡ (run (last s) ops).design
last_committed s ops = ap (design (committed s ops)) (head_new s ops) ∙ ap (λ v. v.design) (version_new s ops)

last_changed : (s : State) (caller : ℕ) (call : Call) (answer : Answer) → last (changed s caller call answer) ≡ redone (last s) call answer
last_changed s caller Pin (Pinned number v) = refl
last_changed s caller Pin (NoVersion v) = refl
last_changed s caller Pin (Gone v) = refl
last_changed s caller Pin Released = refl
last_changed s caller Pin (Collected n) = refl
last_changed s caller Pin (Committed v replies) = refl
last_changed s caller Pin (Conflict o v) = refl
last_changed s caller (PinAt w) (Pinned number v) = refl
last_changed s caller (PinAt w) (NoVersion v) = refl
last_changed s caller (PinAt w) (Gone v) = refl
last_changed s caller (PinAt w) Released = refl
last_changed s caller (PinAt w) (Collected n) = refl
last_changed s caller (PinAt w) (Committed v replies) = refl
last_changed s caller (PinAt w) (Conflict o v) = refl
last_changed s caller (Release p) (Pinned number v) = refl
last_changed s caller (Release p) (NoVersion v) = refl
last_changed s caller (Release p) (Gone v) = refl
last_changed s caller (Release p) Released = refl
last_changed s caller (Release p) (Collected n) = refl
last_changed s caller (Release p) (Committed v replies) = refl
last_changed s caller (Release p) (Conflict o v) = refl
last_changed s caller Collect (Pinned number v) = refl
last_changed s caller Collect (NoVersion v) = refl
last_changed s caller Collect (Gone v) = refl
last_changed s caller Collect Released = refl
last_changed s caller Collect (Collected n) = refl
last_changed s caller Collect (Committed v replies) = refl
last_changed s caller Collect (Conflict o v) = refl
last_changed s caller (Commit p ops) (Pinned number v) = refl
last_changed s caller (Commit p ops) (NoVersion v) = refl
last_changed s caller (Commit p ops) (Gone v) = refl
last_changed s caller (Commit p ops) Released = refl
last_changed s caller (Commit p ops) (Collected n) = refl
last_changed s caller (Commit p ops) (Committed v replies) = last_committed s ops
last_changed s caller (Commit p ops) (Conflict o v) = refl

last_from : (history : List Event) (s : State) → replayed (last s) history ≡ last (state_from s history)
last_from [] s = refl
last_from (event ∷ events) s =
    ap (λ (d : Design). replayed d events) (sym (last_changed s event.caller event.call event.answer))
    ∙ last_from events (after s event)

pub replayed_is_head : (d : Design) (history : List Event) → replayed d history ≡ version_at d history (head (state_after d history))
replayed_is_head d history = last_from history (opening d)
