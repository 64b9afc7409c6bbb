-- A block that commits, and is run again after a conflict.
use Rattle.std.proofs.Common.{◌≡◌, ◌∙◌, ℕ, zero, suc, ◌≤◌, List, [], ◌∷◌, ◌++◌, inl, inr, refl, ap, sym, subst, append_assoc}
use Rattle.std.specs.Prelude.{codes, decimal}
use Rattle.netlist_schema.specs.Design.{Design}
use Rattle.netlist_schema.specs.Types.{Object}
use Rattle.edit_rules_spec.specs.declared.reply.Reply.{Reply}
use Rattle.edit_spec.specs.declared.ops.Op.{Op}
use Rattle.db_spec.specs.Answers.{HasPlaces}
use Rattle.db_spec.specs.History.{Legal, state_after, version_at}
use Rattle.db_spec.specs.State.{head}
use Rattle.db_spec.specs.declared.event.Answer.TheVariants as answer
use Rattle.db_spec.specs.declared.event.Call.TheVariants as call
use Rattle.db_spec.specs.declared.event.Event.{Event}
use Rattle.db_spec.proofs.Histories.{version_stays}
use Rattle.script_spec.specs.Report.{transcript}
use Rattle.script_spec.specs.Session.{Began, Committed, Commits, Conflict, LogFull, Word, Exchange, Held, Nothing, OnPin, InBlock, On, Stop, Told, last_release, release, replied}
use Rattle.script_spec.specs.Texts.{line}
use Rattle.script_spec.specs.declared.script.Step.TheVariants as step
use Rattle.script_run_spec.specs.Calls.{HoldsJust, Makes, Writes}
use Rattle.script_run_spec.specs.Lines.{GoesOn, IsBroken, IsFilled, RunsAgain}
use Rattle.script_run_spec.proofs.Along.{behind_both, transcript-append}
use Rattle.script_run_spec.proofs.Endings.{both_makes}
use Rattle.script_run_spec.proofs.OneLine.{writes_one}
use Rattle.script_run_spec.proofs.Pins.{holds_after, one_released}
use Rattle.script_run_spec.proofs.Places.{commit_full}

-- ---- what a commit may come to

accepts : (versions : ℕ → Design) (ops : List Op) (retries pin w : ℕ) (replies : List Reply)
    → Commits versions ops retries pin (Told (call.Commit pin ops) (answer.Committed w replies) ∷ release pin ∷ []) (Committed w ∷ []) (On Nothing)
accepts versions ops zero pin w replies = inr (inl (w, replies, (refl, refl, refl)))
accepts versions ops (suc n) pin w replies = inr (inl (w, replies, (refl, refl, refl)))

-- behind a conflict and the release, the words of some way to go on
refuses : (versions : ℕ → Design) (ops : List Op) (retries pin : ℕ) (object : Object) (w : ℕ)
    → (words : List Word) × (outcome : _) × Commits versions ops retries pin (Told (call.Commit pin ops) (answer.Conflict object w) ∷ release pin ∷ []) words outcome
refuses versions ops zero pin object w = (Conflict object w ∷ [], On Nothing, inr (inr (object, w, (refl, refl, refl))))
refuses versions ops (suc n) pin object w = (Conflict object w ∷ LogFull ∷ [], Stop 2, inr (inr (object, w, [], LogFull ∷ [], refl, refl, inl (refl, refl, refl))))

module _ (d : Design) (caller : ℕ) (old new : List Event) (before text : List ℕ) (number v retries : ℕ) (ops : List Op) where
  pub accepted_goes : (w : ℕ) (replies : List Reply) → HoldsJust d old caller (InBlock number v retries ops)
      → Makes d caller old new (Told (call.Commit number ops) (answer.Committed w replies) ∷ release number ∷ [])
      → text ≡ before ++ line (codes "committed" ∷ decimal w ∷ []) → GoesOn d caller old new before text (InBlock number v retries ops) step.Commit Nothing
  accepted_goes w replies h m e = record {
    done = Told (call.Commit number ops) (answer.Committed w replies) ∷ release number ∷ [];
    words = Committed w ∷ [];
    makes = m;
    goes = λ more. accepts (version_at d (new ++ more)) ops retries number w replies;
    writes = writes_one d new before text (line (codes "committed" ∷ decimal w ∷ [])) (Committed w) (λ more. refl) e;
    holds = holds_after d caller old new (InBlock number v retries ops) Nothing (Told (call.Commit number ops) (answer.Committed w replies) ∷ release number ∷ []) h m (one_released caller number v);
  }

  pub accepted_broken : (w : ℕ) (replies : List Reply) → HoldsJust d old caller (InBlock number v retries ops)
      → Makes d caller old new (Told (call.Commit number ops) (answer.Committed w replies) ∷ release number ∷ []) → IsBroken d caller old new (InBlock number v retries ops) step.Commit Nothing
  accepted_broken w replies h m = record {
    done = Told (call.Commit number ops) (answer.Committed w replies) ∷ release number ∷ [];
    makes = m;
    begins = λ more. ([], Committed w ∷ [], On Nothing, accepts (version_at d (new ++ more)) ops retries number w replies);
    holds = holds_after d caller old new (InBlock number v retries ops) Nothing (Told (call.Commit number ops) (answer.Committed w replies) ∷ release number ∷ []) h m (one_released caller number v);
  }

  pub commit_filled : HoldsJust d old caller (InBlock number v retries ops) → Makes d caller old new [] → (HasPlaces (state_after d new) 1 → ⊥)
      → text ≡ before ++ line (codes "log-full" ∷ []) → IsFilled d caller old new before text (InBlock number v retries ops) step.Commit (OnPin number v)
  commit_filled h m none e = record {
    done = [];
    words = LogFull ∷ [];
    places = 1;
    makes = m;
    goes = λ more. commit_full (version_at d (new ++ more)) ops retries number;
    writes = writes_one d new before text (line (codes "log-full" ∷ [])) LogFull (λ more. refl) e;
    holds = holds_after d caller old new (InBlock number v retries ops) (OnPin number v) [] h m refl;
    no_places = none;
  }

  pub commit_broken : HoldsJust d old caller (InBlock number v retries ops) → Makes d caller old new [] → IsBroken d caller old new (InBlock number v retries ops) step.Commit (OnPin number v)
  commit_broken h m = record {
    done = [];
    makes = m;
    begins = λ more. (release number ∷ [], LogFull ∷ [], Stop 1, commit_full (version_at d (new ++ more)) ops retries number);
    holds = holds_after d caller old new (InBlock number v retries ops) (OnPin number v) [] h m refl;
  }

  -- the commit was refused, and the pin is still held
  pub refused_broken : (object : Object) (w : ℕ) → HoldsJust d old caller (InBlock number v retries ops) → Makes d caller old new (Told (call.Commit number ops) (answer.Conflict object w) ∷ [])
      → IsBroken d caller old new (InBlock number v retries ops) step.Commit (OnPin number v)
  refused_broken object w h m = record {
    done = Told (call.Commit number ops) (answer.Conflict object w) ∷ [];
    makes = m;
    begins = λ more. let r = refuses (version_at d (new ++ more)) ops retries number object w in (release number ∷ [], r.0, r.1, r.2);
    holds = holds_after d caller old new (InBlock number v retries ops) (OnPin number v) (Told (call.Commit number ops) (answer.Conflict object w) ∷ []) h m refl;
  }

  -- and released
  pub refused_released_broken : (object : Object) (w : ℕ) → HoldsJust d old caller (InBlock number v retries ops)
      → Makes d caller old new (Told (call.Commit number ops) (answer.Conflict object w) ∷ release number ∷ [])
      → IsBroken d caller old new (InBlock number v retries ops) step.Commit Nothing
  refused_released_broken object w h m = record {
    done = Told (call.Commit number ops) (answer.Conflict object w) ∷ release number ∷ [];
    makes = m;
    begins = λ more. let r = refuses (version_at d (new ++ more)) ops retries number object w in ([], r.0, r.1, r.2);
    holds = holds_after d caller old new (InBlock number v retries ops) Nothing (Told (call.Commit number ops) (answer.Conflict object w) ∷ release number ∷ []) h m (one_released caller number v);
  }

-- no retries were left
module _ (d : Design) (caller : ℕ) (old new : List Event) (before text : List ℕ) (number v : ℕ) (ops : List Op) where
  pub gives_up_goes : (object : Object) (w : ℕ) → HoldsJust d old caller (InBlock number v 0 ops)
      → Makes d caller old new (Told (call.Commit number ops) (answer.Conflict object w) ∷ release number ∷ [])
      → Writes d new before text (Conflict object w ∷ []) → GoesOn d caller old new before text (InBlock number v 0 ops) step.Commit Nothing
  gives_up_goes object w h m writes = record {
    done = Told (call.Commit number ops) (answer.Conflict object w) ∷ release number ∷ [];
    words = Conflict object w ∷ [];
    makes = m;
    goes = λ more. inr (inr (object, w, (refl, refl, refl)));
    writes = writes;
    holds = holds_after d caller old new (InBlock number v 0 ops) Nothing (Told (call.Commit number ops) (answer.Conflict object w) ∷ release number ∷ []) h m (one_released caller number v);
  }

-- ---- run again

-- the words of two parts
pub writes_both : (d : Design) (caller : ℕ) (mid new : List Event) (done : List Exchange) (m : Makes d caller mid new done) (before between text : List ℕ) (front words : List Word)
    → Writes d mid before between front → Writes d new between text words → Writes d new before text (front ++ words)
writes_both d caller mid new done m before between text front words first second more legal =
    let same = behind_both d caller mid new done more m in
    let begun : between ≡ before ++ transcript d (new ++ more) front =
    first (m.more ++ more) (subst (λ (xs : List Event). Legal d xs) same legal) ∙ ap (λ (xs : List Event). before ++ transcript d xs front) (sym same) in
    second more legal ∙ ap (λ (xs : List ℕ). xs ++ transcript d (new ++ more) words) begun
    ∙ append_assoc before (transcript d (new ++ more) front) (transcript d (new ++ more) words)
    ∙ ap (λ (xs : List ℕ). before ++ xs) (sym (transcript-append d (new ++ more) front words))

module _ (d : Design) (caller : ℕ) (old mid new : List Event) (before between text : List ℕ) (number v retries : ℕ) (ops : List Op) (next u : ℕ) where
  -- the versions of a history that went on
  same_replied : (done : List Exchange) (m : Makes d caller mid new done) (more : List Event) → u ≤ head (state_after d mid)
      → replied (version_at d mid u) ops ≡ replied (version_at d (new ++ more) u) ops
  same_replied done m more le =
      ap (λ (e : Design). replied e ops) (sym (version_stays d mid (m.more ++ more) u le) ∙ ap (λ (xs : List Event). version_at d xs u) (sym (behind_both d caller mid new done more m)))

  pub again_goes : (held : Held) → (a : RunsAgain d caller old mid before between number v ops next u) → GoesOn d caller mid new between text (InBlock next u retries ops) step.Commit held
      → GoesOn d caller old new before text (InBlock number v (suc retries) ops) step.Commit held
  again_goes held a g = record {
    done = Told (call.Commit number ops) (answer.Conflict a.object a.later) ∷ release number ∷ Told call.Pin (answer.Pinned next u) ∷ g.done;
    words = Conflict a.object a.later ∷ Began u ∷ (replied (version_at d mid u) ops ++ g.words);
    makes = both_makes d caller old mid new _ g.done a.makes g.makes;
    goes = λ more. inr (inr (
      a.object,
      a.later,
      Told call.Pin (answer.Pinned next u) ∷ g.done,
      Began u ∷ (replied (version_at d mid u) ops ++ g.words),
      refl,
      refl,
      inr (next, u, g.done, g.words, refl, ap (λ (rs : List Word). Began u ∷ (rs ++ g.words)) (same_replied g.done g.makes more a.there), g.goes more),
    ));
    writes = writes_both d caller mid new g.done g.makes before between text (Conflict a.object a.later ∷ Began u ∷ replied (version_at d mid u) ops) g.words a.writes g.writes;
    holds = g.holds;
  }

  pub again_filled : (held : Held) → (a : RunsAgain d caller old mid before between number v ops next u) → IsFilled d caller mid new between text (InBlock next u retries ops) step.Commit held
      → IsFilled d caller old new before text (InBlock number v (suc retries) ops) step.Commit held
  again_filled held a g = record {
    done = Told (call.Commit number ops) (answer.Conflict a.object a.later) ∷ release number ∷ Told call.Pin (answer.Pinned next u) ∷ g.done;
    words = Conflict a.object a.later ∷ Began u ∷ (replied (version_at d mid u) ops ++ g.words);
    places = g.places;
    makes = both_makes d caller old mid new _ g.done a.makes g.makes;
    goes = λ more. inr (inr (
      a.object,
      a.later,
      Told call.Pin (answer.Pinned next u) ∷ (g.done ++ last_release held),
      Began u ∷ (replied (version_at d mid u) ops ++ g.words),
      refl,
      refl,
      inr (next, u, g.done ++ last_release held, g.words, refl, ap (λ (rs : List Word). Began u ∷ (rs ++ g.words)) (same_replied g.done g.makes more a.there), g.goes more),
    ));
    writes = writes_both d caller mid new g.done g.makes before between text (Conflict a.object a.later ∷ Began u ∷ replied (version_at d mid u) ops) g.words a.writes g.writes;
    holds = g.holds;
    no_places = g.no_places;
  }

  pub again_broken : (held : Held) → (a : RunsAgain d caller old mid before between number v ops next u) → IsBroken d caller mid new (InBlock next u retries ops) step.Commit held
      → IsBroken d caller old new (InBlock number v (suc retries) ops) step.Commit held
  again_broken held a g = record {
    done = Told (call.Commit number ops) (answer.Conflict a.object a.later) ∷ release number ∷ Told call.Pin (answer.Pinned next u) ∷ g.done;
    makes = both_makes d caller old mid new _ g.done a.makes g.makes;
    begins = λ more. let b = g.begins more in (
      b.0,
      Conflict a.object a.later ∷ Began u ∷ (replied (version_at d (new ++ more) u) ops ++ b.1),
      b.2,
      inr (inr (
        a.object,
        a.later,
        Told call.Pin (answer.Pinned next u) ∷ (g.done ++ b.0),
        Began u ∷ (replied (version_at d (new ++ more) u) ops ++ b.1),
        refl,
        refl,
        inr (next, u, g.done ++ b.0, b.1, refl, refl, b.3),
      )),
    );
    holds = g.holds;
  }

-- ---- the pin of a block that is run again

module _ (d : Design) (caller : ℕ) (old new : List Event) (before text : List ℕ) (number v retries : ℕ) (ops : List Op) (object : Object) (w : ℕ) where
  pub again_pin_filled : HoldsJust d new caller Nothing → Makes d caller old new (Told (call.Commit number ops) (answer.Conflict object w) ∷ release number ∷ []) → (HasPlaces (state_after d new) 2 → ⊥)
      → Writes d new before text (Conflict object w ∷ LogFull ∷ []) → IsFilled d caller old new before text (InBlock number v (suc retries) ops) step.Commit Nothing
  again_pin_filled h m none writes = record {
    done = Told (call.Commit number ops) (answer.Conflict object w) ∷ release number ∷ [];
    words = Conflict object w ∷ LogFull ∷ [];
    places = 2;
    makes = m;
    goes = λ more. inr (inr (object, w, [], LogFull ∷ [], refl, refl, inl (refl, refl, refl)));
    writes = writes;
    holds = h;
    no_places = none;
  }

  -- it was made
  pub again_pinned_broken : (next u : ℕ) → HoldsJust d new caller (OnPin next u)
      → Makes d caller old new (Told (call.Commit number ops) (answer.Conflict object w) ∷ release number ∷ Told call.Pin (answer.Pinned next u) ∷ [])
      → IsBroken d caller old new (InBlock number v (suc retries) ops) step.Commit (OnPin next u)
  again_pinned_broken next u h m = record {
    done = Told (call.Commit number ops) (answer.Conflict object w) ∷ release number ∷ Told call.Pin (answer.Pinned next u) ∷ [];
    makes = m;
    begins = λ more. (
      release next ∷ [],
      Conflict object w ∷ Began u ∷ (replied (version_at d (new ++ more) u) ops ++ LogFull ∷ []),
      Stop 1,
      inr (inr (
        object,
        w,
        Told call.Pin (answer.Pinned next u) ∷ release next ∷ [],
        Began u ∷ (replied (version_at d (new ++ more) u) ops ++ LogFull ∷ []),
        refl,
        refl,
        inr (next, u, release next ∷ [], LogFull ∷ [], refl, refl, commit_full (version_at d (new ++ more)) ops retries next),
      )),
    );
    holds = h;
  }
