-- One commit of a block, and what is said of it.
use Rattle.std.proofs.Common.{◌≡◌, ◌∙◌, ℕ, ◌≤◌, List, [], ◌∷◌, ◌++◌, Result, Ok, Err, refl, ap, sym, subst, arith}
use Rattle.std.specs.Prelude.{IfOk, OnOk, codes, decimal}
use Rattle.netlist_schema.specs.Design.{Design}
use Rattle.netlist_schema.specs.Types.{Object}
use Rattle.netlist_schema.specs.Valid.{IsValid}
use Rattle.edit_rules_spec.specs.Objects.{IsThere}
use Rattle.edit_rules_spec.specs.declared.reply.Reply.{Reply}
use Rattle.edit_spec.specs.declared.ops.Op.{Op}
use Rattle.edit_tx.specs.Facts.{PinFacts, TxFacts}
use Rattle.db_spec.specs.Answers.{IsConflict}
use Rattle.db_spec.specs.History.{Legal, state_after, version_at}
use Rattle.db_spec.specs.State.{State, IsLive, LivePin, head}
use Rattle.db_spec.specs.declared.event.Answer.{Answer}
use Rattle.db_spec.specs.declared.event.Answer.TheVariants as answer
use Rattle.db_spec.specs.declared.event.Call.TheVariants as call
use Rattle.db_spec.specs.declared.event.Event.{Event}
use Rattle.db_spec.proofs.Histories.{state_after-push, version_stays}
use Rattle.db_spec.proofs.Promised.{valid_at}
use Rattle.db_spec.proofs.Sound.{kept_up_after, one_pin}
use Rattle.script_spec.specs.Report.{transcript}
use Rattle.script_spec.specs.Session.{Conflict, Exchange, Nothing, OnPin, Told, Word, release}
use Rattle.script_spec.specs.Texts.{conflict_words, line}
use Rattle.script_spec.specs.declared.script.Step.TheVariants as step
use Rattle.script_run_spec.specs.Calls.{HoldsJust, Makes, Writes}
use Rattle.script_run_spec.proofs.Along.{behind_both}
use Rattle.script_run_spec.proofs.Blocks.{accepted_broken, accepted_goes, commit_broken, commit_filled, refused_released_broken}
use Rattle.script_run_spec.proofs.Endings.{both_makes}
use Rattle.script_run_spec.proofs.Named.{conflict_is_named}
use Rattle.script_run_spec.proofs.OneLine.{writes_one}
use Rattle.script_run_spec.proofs.Pins.{held_is_live, holds_after, live_is_there, one_released}
use Rattle.db_spec.proofs.Pinned.{conflicts_are_pinned}
use Rattle.db_core.specs.Calls.{commit_of, event_of}
use Rattle.db_core.specs.declared.errors.CommitError.TheVariants.{LogFull as CommitFull, Conflict as Conflicted, NoMemory as CommitNoMemory}
use Rattle.db_share.specs.Passes.{Shared, Pass, HasPin}
use Rattle.db_share.specs.Calls.{GoesOn as PassGoesOn, HasReleased, LacksRoom, LacksMemory, Makes as MakesEvent}
use Rattle.db_share.proofs.Keeping.{keeps_committed}
use Rattle.script_held.specs.Holding.{block_of, filled}
use Rattle.script_held.specs.declared.held.Block.{Block}
use Rattle.script_held.specs.declared.held.Held.TheVariants as held
use Rattle.script_held.specs.declared.held.Stop.TheVariants.{NoMemory}
use Rattle.script_held.proofs.Calls.{one_call}
use Rattle.script_run.specs.Coming.{Commits, Stops, accepted, refused}
use Rattle.script_run.specs.Holding.{Stands}
use Rattle.script_run.proofs.Calls.{makes_later, no_call}

-- what was written stays what the words say, as the history goes on
pub writes_later : (d : Design) (caller : ℕ) (mid new : List Event) (done : List Exchange) (before text : List ℕ) (words : List Word) → (m : Makes d caller mid new done) → Writes d mid before text words
    → Writes d new before text words
writes_later d caller mid new done before text words m writes more legal =
    let same = behind_both d caller mid new done more m in
    writes (m.more ++ more) (subst (λ (xs : List Event). Legal d xs) same legal) ∙ ap (λ (xs : List Event). before ++ transcript d xs words) (sym same)

-- ---- a conflict is told by the names of the pinned version

-- a refused commit leaves the pins as they were
live_before : (d : Design) (log seen : List Event) (caller number v u : ℕ) (n : ℕ) (ops : List Op) (object : Object) (w : ℕ) → seen ≡ log ++ event_of caller (call.Commit n ops) (answer.Conflict object w) ∷ []
    → IsLive (state_after d log) number caller u → IsLive (state_after d seen) number caller u
live_before d log seen caller number v u n ops object w is live =
    let event : Event = event_of caller (call.Commit n ops) (answer.Conflict object w) in
    subst (λ (xs : List Event). IsLive (state_after d xs) number caller u) (sym is) (subst (λ (s : State). IsLive s number caller u) (sym (state_after-push d log event)) live)

-- the object is in the pinned version
object_there : (d : Design) (log seen : List Event) (caller number v u : ℕ) (ops : List Op) (object : Object) (w : ℕ) → Legal d seen → IsValid (version_at d seen u)
    → seen ≡ log ++ event_of caller (call.Commit number ops) (answer.Conflict object w) ∷ [] → IsLive (state_after d seen) number caller v
    → IsLive (state_after d log) number caller u → IsConflict (state_after d log) u ops object w → IsThere (version_at d seen v) object
object_there d log seen caller number v u ops object w legal valid is held live c =
    let event : Event = event_of caller (call.Commit number ops) (answer.Conflict object w) in
    let low = c.clashes.later in
    let high = c.clashes.there in
    let le : u ≤ head (state_after d log) = omega (arith, low, high) in
    let stays : version_at d seen u ≡ version_at d log u = ap (λ (xs : List Event). version_at d xs u) is ∙ version_stays d log (event ∷ []) u le in
    let there : IsThere (version_at d log u) object = conflicts_are_pinned d log u ops object w (subst IsValid stays valid) c in
    let one = one_pin (state_after d seen) number caller u caller v (kept_up_after d seen legal).fine (live_before d log seen caller number v u number ops object w is live) held in
    let same : u ≡ v = ap (λ (p : LivePin). p.version) one in
    subst (λ (k : ℕ). IsThere (version_at d seen k) object) same (subst (λ (e : Design). IsThere e object) (sym stays) there)

module _ (db : Shared) (old mid new : Pass) (before text : List ℕ) (block : Block) (s : Stands db old (held.InBlock block)) where
  -- ---- the commit was made, or met a conflict, and the pin was released

  both_calls : (a : Answer) (pin : PinFacts) → MakesEvent db old mid (commit_of block.tx) a → pin ≡ block.tx.pin → HasReleased db mid new pin
      → Makes db.base old.number old.seen new.seen (Told (call.Commit block.tx.pin.number block.tx.ops) a ∷ release block.tx.pin.number ∷ [])
  both_calls a pin made same r =
      both_makes db.base old.number old.seen mid.seen new.seen (Told (call.Commit block.tx.pin.number block.tx.ops) a ∷ []) (release block.tx.pin.number ∷ [])
      (one_call db old mid (commit_of block.tx) a s.ready made)
      (makes_later db old mid new (release block.tx.pin.number ∷ []) made.on.number
      (subst (λ (p : PinFacts). Makes db.base mid.number mid.seen new.seen (release p.number ∷ [])) same (one_call db mid new (call.Release pin.number) answer.Released made.on.ready r)))

  pub accepted_told : {A E : Type 0} (said : Result A E) (w : ℕ) (replies : List Reply) (pin : PinFacts) → MakesEvent db old mid (commit_of block.tx) (answer.Committed w replies) → pin ≡ block.tx.pin
      → HasReleased db mid new pin → OnOk said (text ≡ before ++ line (codes "committed" ∷ decimal w ∷ [])) → Commits db old new before text block (accepted said)
  accepted_told (Ok a) w replies pin made same r e =
      accepted_goes db.base old.number old.seen new.seen before text block.tx.pin.number block.tx.pin.version block.retries block.tx.ops w replies s.holds
      (both_calls (answer.Committed w replies) pin made same r) e
  accepted_told (Err x) w replies pin made same r e = (
    accepted_broken db.base old.number old.seen new.seen before text block.tx.pin.number block.tx.pin.version block.retries block.tx.ops w replies s.holds
        (both_calls (answer.Committed w replies) pin made same r),
    tt,
  )

  -- the words of the conflict
  conflict_writes : (object : Object) (w : ℕ) → MakesEvent db old mid (commit_of block.tx) (answer.Conflict object w) → text ≡ before ++ line (conflict_words block.tx.pin.design object w)
      → Writes db.base mid.seen before text (Conflict object w ∷ [])
  conflict_writes object w made e =
      let d : Design = db.base in
      let pin : PinFacts = block.tx.pin in
      let ready = made.on.ready in
      let m = one_call db old mid (commit_of block.tx) (answer.Conflict object w) s.ready made in
      let holds : HoldsJust d mid.seen old.number (OnPin pin.number pin.version) =
      holds_after d old.number old.seen mid.seen (block_of block) (OnPin pin.number pin.version) (Told (call.Commit pin.number block.tx.ops) (answer.Conflict object w) ∷ []) s.holds m refl in
      let live = held_is_live d mid.seen old.number pin.number pin.version holds in
      let le = live_is_there d mid.seen old.number pin.number pin.version ready.history.legal live in
      let answers = made.admits.answers in
      let u : ℕ = answers.0 in
      let low = answers.2.clashes.later in
      let high = answers.2.clashes.there in
      let live_u = live_before d made.log mid.seen old.number pin.number pin.version u pin.number block.tx.ops object w made.seen answers.1 in
      let valid = valid_at d mid.seen u ready.history.valid ready.history.typed (live_is_there d mid.seen old.number pin.number u ready.history.legal live_u) in
      let there = object_there d made.log mid.seen old.number pin.number pin.version u block.tx.ops object w ready.history.legal valid made.seen live answers.1 answers.2 in
      let design : pin.design ≡ version_at d mid.seen pin.version =
      (keeps_committed db old mid s.ready block.tx (Err (Conflicted object w, block.tx)) (made, refl) pin s.mine).is_pin.design in
      writes_one d mid.seen before text (line (conflict_words (version_at d mid.seen pin.version) object w)) (Conflict object w)
      (λ more. conflict_is_named d mid.seen more pin.version w object le there)
      (e ∙ ap (λ (x : Design). before ++ line (conflict_words x object w)) design)

  pub refused_told : {E : Type 0} (r : Result (List Op) E) (object : Object) (w : ℕ) (tx : TxFacts) → tx ≡ block.tx → MakesEvent db old mid (commit_of block.tx) (answer.Conflict object w)
      → PassGoesOn db mid new → HasReleased db mid new tx.pin → IfOk r (λ ops. ops ≡ tx.ops) → OnOk r (text ≡ before ++ line (conflict_words tx.pin.design object w))
      → Commits db old new before text block (refused r)
  refused_told (Ok ops) object w tx same made on released ops_are e =
      let pin : PinFacts = block.tx.pin in
      let pin_same : tx.pin ≡ pin = ap (λ (t : TxFacts). t.pin) same in
      let m = both_calls (answer.Conflict object w) tx.pin made pin_same released in
      let later = makes_later db old mid new (release pin.number ∷ []) made.on.number
      (subst (λ (p : PinFacts). Makes db.base mid.number mid.seen new.seen (release p.number ∷ [])) pin_same (one_call db mid new (call.Release tx.pin.number) answer.Released made.on.ready released)) in
      record {
        object = object;
        later = w;
        same = ops_are ∙ ap (λ (t : TxFacts). t.ops) same;
        makes = m;
        writes = writes_later db.base old.number mid.seen new.seen (release pin.number ∷ []) before text (Conflict object w ∷ []) later
            (conflict_writes object w made (e ∙ ap (λ (p : PinFacts). before ++ line (conflict_words p.design object w)) pin_same));
        stands = record {
          ready = released.on.ready;
          holds = subst (λ (n : ℕ). HoldsJust db.base new.seen n Nothing) (sym (released.on.number ∙ made.on.number))
              (holds_after db.base old.number old.seen new.seen (block_of block) Nothing
              (Told (call.Commit pin.number block.tx.ops) (answer.Conflict object w) ∷ release pin.number ∷ []) s.holds m (one_released old.number pin.number pin.version));
          mine = tt;
        };
      }
  refused_told (Err x) object w tx same made on released ops_are e = (
    refused_released_broken db.base old.number old.seen new.seen before text block.tx.pin.number block.tx.pin.version block.retries block.tx.ops object w s.holds
        (both_calls (answer.Conflict object w) tx.pin made (ap (λ (t : TxFacts). t.pin) same) released),
    tt,
  )

-- ---- the commit was no event

module _ (db : Shared) (old new : Pass) (before text : List ℕ) (block : Block) (s : Stands db old (held.InBlock block)) where
  full_commit : {A E : Type 0} (said : Result A E) → LacksRoom db old new (commit_of block.tx) → OnOk said (text ≡ before ++ line (codes "log-full" ∷ []))
      → Stops db old new before text (block_of block) step.Commit (filled said (held.OnPin block.tx.pin))
  full_commit (Ok a) f e = (
    commit_filled db.base old.number old.seen new.seen before text block.tx.pin.number block.tx.pin.version block.retries block.tx.ops s.holds (no_call db old new s.ready f.looks) f.full e,
    keeps_committed db old new s.ready block.tx (Err (CommitFull, block.tx)) (f, refl) block.tx.pin s.mine,
  )
  full_commit (Err x) f e = (
    commit_broken db.base old.number old.seen new.seen before text block.tx.pin.number block.tx.pin.version block.retries block.tx.ops s.holds (no_call db old new s.ready f.looks),
    keeps_committed db old new s.ready block.tx (Err (CommitFull, block.tx)) (f, refl) block.tx.pin s.mine,
  )

  pub commit_full : {A E : Type 0} (said : Result A E) (tx : TxFacts) (pin : PinFacts) → pin ≡ tx.pin → tx ≡ block.tx → LacksRoom db old new (commit_of block.tx) → OnOk said (text ≡ before ++ line (codes "log-full" ∷ []))
      → Stops db old new before text (block_of block) step.Commit (filled said (held.OnPin pin))
  commit_full said tx pin same back f e =
      subst (λ (p : PinFacts). Stops db old new before text (block_of block) step.Commit (filled said (held.OnPin p))) (sym (same ∙ ap (λ (t : TxFacts). t.pin) back)) (full_commit said f e)

  pub commit_short : (tx : TxFacts) (pin : PinFacts) → pin ≡ tx.pin → tx ≡ block.tx → LacksMemory db old new (commit_of block.tx) → Stops db old new before text (block_of block) step.Commit (NoMemory (held.OnPin pin))
  commit_short tx pin same back l =
      subst (λ (p : PinFacts). Stops db old new before text (block_of block) step.Commit (NoMemory (held.OnPin p))) (sym (same ∙ ap (λ (t : TxFacts). t.pin) back)) (
        commit_broken db.base old.number old.seen new.seen before text block.tx.pin.number block.tx.pin.version block.retries block.tx.ops s.holds (no_call db old new s.ready l.looks),
        keeps_committed db old new s.ready block.tx (Err (CommitNoMemory, block.tx)) (l, refl) block.tx.pin s.mine,
      )

  -- the pin of a refused commit is still the pass's
  pub refused_pin : (object : Object) (w : ℕ) (tx : TxFacts) → tx ≡ block.tx → MakesEvent db old new (commit_of block.tx) (answer.Conflict object w) → HasPin db new tx.pin
  refused_pin object w tx back made =
      subst (λ (t : TxFacts). HasPin db new t.pin) (sym back) (keeps_committed db old new s.ready block.tx (Err (Conflicted object w, block.tx)) (made, refl) block.tx.pin s.mine)
