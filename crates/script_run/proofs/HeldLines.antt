-- Lines that release, collect, walk, and those that try an operation.
use Rattle.std.proofs.Common.{◌≡◌, ◌∙◌, ℕ, ◌≤◌, List, [], ◌∷◌, ◌++◌, Option, Result, Ok, Err, refl, ap, sym, subst}
use Rattle.std.specs.Prelude.{OnOk, codes, decimal}
use Rattle.netlist_schema.specs.Design.{Design}
use Rattle.edit_spec.specs.declared.ops.Op.{Op}
use Rattle.edit_tx.specs.Facts.{HasRun, PinFacts, TxFacts}
use Rattle.db_spec.specs.History.{state_after}
use Rattle.db_spec.specs.State.{head}
use Rattle.db_spec.specs.declared.event.Answer.TheVariants as answer
use Rattle.db_spec.specs.declared.event.Call.TheVariants as call
use Rattle.flat_lines_spec.specs.Lines.{flattening_text}
use Rattle.script_spec.specs.Session.{Abandoned, NoPin, Released, Replied, Walked, Nothing, OffPin, OnPin, InBlock, On, release, reply_behind}
use Rattle.script_spec.specs.Texts.{line, reply_text}
use Rattle.script_spec.specs.declared.script.Step.TheVariants as step
use Rattle.script_run_spec.specs.Calls.{HoldsJust}
use Rattle.script_run_spec.specs.Lines.{GoesOn, IsNoBlock}
use Rattle.script_run_spec.proofs.OneLine.{abandon_goes, broken, collect_broken, collect_filled, collect_goes, collected_broken, makes_nothing, off_release_goes, off_walk_goes, op_goes, release_goes, walk_goes}
use Rattle.script_run_spec.proofs.Pins.{held_is_live, holds_after, live_is_there, one_released}
use Rattle.db_core.specs.declared.errors.CollectError.TheVariants.{LogFull as CollectFull, NoMemory as CollectNoMemory}
use Rattle.db_share.specs.Passes.{Shared, Pass, HasPin, KeepsPins}
use Rattle.db_share.specs.Calls.{HasReleased, LacksRoom, LacksMemory, Makes}
use Rattle.db_share.proofs.Keeping.{keeps_collected}
use Rattle.script_held.specs.Holding.{IsHeldBy, block_of, filled, held_of, held_after}
use Rattle.script_held.specs.declared.held.Block.{Block}
use Rattle.script_held.specs.declared.held.Held.{Held}
use Rattle.script_held.specs.declared.held.Held.TheVariants as held
use Rattle.script_held.specs.declared.held.Stop.TheVariants.{NoMemory}
use Rattle.script_held.proofs.Calls.{one_call}
use Rattle.script_run.specs.Coming.{Comes, Stops}
use Rattle.script_run.specs.Holding.{Stands}
use Rattle.script_run.proofs.Calls.{no_call}

-- what is held is kept over a call that keeps pins
pub held_kept : (db : Shared) (old new : Pass) (h : Held) → KeepsPins db old new → IsHeldBy db old h → IsHeldBy db new h
held_kept db old new held.Nothing keeps mine = tt
held_kept db old new (held.OnPin pin) keeps mine = keeps pin mine
held_kept db old new held.OffPin keeps mine = tt
held_kept db old new (held.InBlock block) keeps mine = keeps block.tx.pin mine

module _ (db : Shared) (old new : Pass) (before text : List ℕ) where
  -- ---- releases

  pub release_told : {A E : Type 0} (said : Result A E) (pin : PinFacts) → Stands db old (held.OnPin pin) → HasReleased db old new pin → OnOk said (text ≡ before ++ line (codes "released" ∷ []))
      → Comes db old new before text (OnPin pin.number pin.version) step.Release (held_after said held.Nothing)
  release_told (Ok a) pin s r e =
      (release_goes db.base old.number old.seen new.seen before text pin.number pin.version s.holds (one_call db old new (call.Release pin.number) answer.Released s.ready r) e, tt)
  release_told (Err x) pin s r e =
      let m = one_call db old new (call.Release pin.number) answer.Released s.ready r in (
        broken db.base old.number old.seen new.seen before text (OnPin pin.number pin.version) Nothing step.Release (release pin.number ∷ []) m
            (holds_after db.base old.number old.seen new.seen (OnPin pin.number pin.version) Nothing (release pin.number ∷ []) s.holds m (one_released old.number pin.number pin.version))
            (λ versions. ([], Released ∷ [], On Nothing, (refl, refl, refl))),
        tt,
      )

  abandoned : {A E : Type 0} (said : Result A E) (block : Block) → Stands db old (held.InBlock block) → HasReleased db old new block.tx.pin → OnOk said (text ≡ before ++ line (codes "abandoned" ∷ []))
      → Comes db old new before text (block_of block) step.Abandon (held_after said held.Nothing)
  abandoned (Ok a) block s r e = (
    abandon_goes db.base old.number old.seen new.seen before text block.tx.pin.number block.tx.pin.version block.retries block.tx.ops s.holds
        (one_call db old new (call.Release block.tx.pin.number) answer.Released s.ready r) e,
    tt,
  )
  abandoned (Err x) block s r e =
      let pin = block.tx.pin in
      let m = one_call db old new (call.Release pin.number) answer.Released s.ready r in (
        broken db.base old.number old.seen new.seen before text (block_of block) Nothing step.Abandon (release pin.number ∷ []) m
            (holds_after db.base old.number old.seen new.seen (block_of block) Nothing (release pin.number ∷ []) s.holds m (one_released old.number pin.number pin.version))
            (λ versions. ([], Abandoned ∷ [], On Nothing, (refl, refl, refl))),
        tt,
      )

  pub abandon_told : {A E : Type 0} (said : Result A E) (block : Block) (pin : PinFacts) → pin ≡ block.tx.pin → Stands db old (held.InBlock block) → HasReleased db old new pin
      → OnOk said (text ≡ before ++ line (codes "abandoned" ∷ [])) → Comes db old new before text (block_of block) step.Abandon (held_after said held.Nothing)
  abandon_told said block pin is s r e = abandoned said block s (subst (λ (p : PinFacts). HasReleased db old new p) is r) e

  -- ---- collects

  module _ (h : Held) (n : IsNoBlock (held_of h)) (s : Stands db old h) where
    pub collect_told : {A E : Type 0} (said : Result A E) (count : ℕ) → Makes db old new call.Collect (answer.Collected count) → OnOk said (text ≡ before ++ line (codes "collected" ∷ decimal count ∷ []))
        → Comes db old new before text (held_of h) step.Collect (held_after said h)
    collect_told (Ok a) count m e = (
      collect_goes db.base old.number old.seen new.seen before text (held_of h) count n s.holds (one_call db old new call.Collect (answer.Collected count) s.ready m) e,
      held_kept db old new h (keeps_collected db old new s.ready (Ok count) m) s.mine,
    )
    collect_told (Err x) count m e = (
      collected_broken db.base old.number old.seen new.seen before text (held_of h) count n s.holds (one_call db old new call.Collect (answer.Collected count) s.ready m),
      held_kept db old new h (keeps_collected db old new s.ready (Ok count) m) s.mine,
    )

    pub collect_full : {A E : Type 0} (said : Result A E) → LacksRoom db old new call.Collect → OnOk said (text ≡ before ++ line (codes "log-full" ∷ []))
        → Stops db old new before text (held_of h) step.Collect (filled said h)
    collect_full (Ok a) f e = (
      collect_filled db.base old.number old.seen new.seen before text (held_of h) n s.holds (no_call db old new s.ready f.looks) f.full e,
      held_kept db old new h (keeps_collected db old new s.ready (Err CollectFull) f) s.mine,
    )
    collect_full (Err x) f e = (
      collect_broken db.base old.number old.seen new.seen before text (held_of h) n s.holds (no_call db old new s.ready f.looks),
      held_kept db old new h (keeps_collected db old new s.ready (Err CollectFull) f) s.mine,
    )

    pub collect_short : LacksMemory db old new call.Collect → Stops db old new before text (held_of h) step.Collect (NoMemory h)
    collect_short l = (
      collect_broken db.base old.number old.seen new.seen before text (held_of h) n s.holds (no_call db old new s.ready l.looks),
      held_kept db old new h (keeps_collected db old new s.ready (Err CollectNoMemory) l) s.mine,
    )

-- ---- lines without calls

-- the version of the pin that is held is there
pub held_is_there : (db : Shared) (pass : Pass) (h : Held) (number v : ℕ) → Stands db pass h → HoldsJust db.base pass.seen pass.number (OnPin number v) → v ≤ head (state_after db.base pass.seen)
held_is_there db pass h number v s holds = live_is_there db.base pass.seen pass.number number v s.ready.history.legal (held_is_live db.base pass.seen pass.number number v holds)

module _ (db : Shared) (pass : Pass) (before text : List ℕ) where
  pub walk_told : {A E : Type 0} (said : Result A E) (pin : PinFacts) (limit : Option ℕ) → Stands db pass (held.OnPin pin) → OnOk said (text ≡ before ++ flattening_text pin.design limit)
      → Comes db pass pass before text (OnPin pin.number pin.version) (step.Walk limit) (held_after said (held.OnPin pin))
  walk_told (Ok a) pin limit s e =
      let le = held_is_there db pass (held.OnPin pin) pin.number pin.version s s.holds in (
        walk_goes db.base pass.number pass.seen before text pin.number pin.version limit s.ready.history.legal s.holds le
            (e ∙ ap (λ (d : Design). before ++ flattening_text d limit) s.mine.is_pin.design),
        s.mine,
      )
  walk_told (Err x) pin limit s e = (
    broken db.base pass.number pass.seen pass.seen before text (OnPin pin.number pin.version) (OnPin pin.number pin.version) (step.Walk limit) []
        (makes_nothing db.base pass.number pass.seen s.ready.history.legal) s.holds
        (λ versions. ([], Walked pin.version limit ∷ [], On (OnPin pin.number pin.version), (refl, refl, refl))),
    s.mine,
  )

  pub off_walk_told : {A E : Type 0} (said : Result A E) (limit : Option ℕ) → Stands db pass held.OffPin → OnOk said (text ≡ before ++ line (codes "no-pin" ∷ []))
      → Comes db pass pass before text OffPin (step.Walk limit) (held_after said held.OffPin)
  off_walk_told (Ok a) limit s e = (off_walk_goes db.base pass.number pass.seen before text limit s.ready.history.legal s.holds e, tt)
  off_walk_told (Err x) limit s e = (
    broken db.base pass.number pass.seen pass.seen before text OffPin OffPin (step.Walk limit) [] (makes_nothing db.base pass.number pass.seen s.ready.history.legal) s.holds
        (λ versions. ([], NoPin ∷ [], On OffPin, (refl, refl, refl))),
    tt,
  )

  pub off_release_told : {A E : Type 0} (said : Result A E) → Stands db pass held.OffPin → OnOk said (text ≡ before ++ line (codes "no-pin" ∷ []))
      → Comes db pass pass before text OffPin step.Release (held_after said held.Nothing)
  off_release_told (Ok a) s e = (off_release_goes db.base pass.number pass.seen before text s.ready.history.legal s.holds e, tt)
  off_release_told (Err x) s e = (
    broken db.base pass.number pass.seen pass.seen before text OffPin Nothing step.Release [] (makes_nothing db.base pass.number pass.seen s.ready.history.legal) s.holds
        (λ versions. ([], NoPin ∷ [], On Nothing, (refl, refl, refl))),
    tt,
  )

  pub op_told : {A E : Type 0} (said : Result A E) (block : Block) (op : Op) (tx : TxFacts) → Stands db pass (held.InBlock block) → OnOk said (HasRun block.tx tx op)
      → OnOk said (text ≡ before ++ line (reply_text (reply_behind block.tx.pin.design block.tx.ops op) ∷ [])) → tx.pin ≡ block.tx.pin
      → Comes db pass pass before text (block_of block) (step.Run op) (held_after said (held.InBlock (record { tx = tx; retries = block.retries; first = block.first })))
  op_told (Ok a) block op tx s run e same =
      let pin = block.tx.pin in
      let le = held_is_there db pass (held.InBlock block) pin.number pin.version s s.holds in
      let goes = op_goes db.base pass.number pass.seen before text pin.number pin.version block.retries block.tx.ops op s.ready.history.legal s.holds le
      (e ∙ ap (λ (d : Design). before ++ line (reply_text (reply_behind d block.tx.ops op) ∷ [])) s.mine.is_pin.design) in (
        subst (λ (p : PinFacts). GoesOn db.base pass.number pass.seen pass.seen before text (block_of block) (step.Run op) (InBlock p.number p.version block.retries tx.ops)) (sym same)
            (subst (λ (ops : List Op). GoesOn db.base pass.number pass.seen pass.seen before text (block_of block) (step.Run op) (InBlock pin.number pin.version block.retries ops)) (sym run.ops) goes),
        subst (λ (p : PinFacts). HasPin db pass p) (sym same) s.mine,
      )
  op_told (Err x) block op tx s run e same = (
    broken db.base pass.number pass.seen pass.seen before text (block_of block) (InBlock tx.pin.number tx.pin.version block.retries tx.ops) (step.Run op) []
        (makes_nothing db.base pass.number pass.seen s.ready.history.legal)
        (subst (λ (p : PinFacts). HoldsJust db.base pass.seen pass.number (OnPin p.number p.version)) (sym same) s.holds)
        (λ versions. ([], Replied (reply_behind (versions block.tx.pin.version) block.tx.ops op) ∷ [], On (InBlock block.tx.pin.number block.tx.pin.version block.retries (block.tx.ops ++ op ∷ [])), (refl, refl, refl))),
    subst (λ (p : PinFacts). HasPin db pass p) (sym same) s.mine,
  )
