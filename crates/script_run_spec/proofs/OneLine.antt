-- What each kind of line comes to, from its calls and its text.
use Rattle.std.proofs.Common.{◌≡◌, ◌∙◌, ℕ, ◌≤◌, List, [], ◌∷◌, ◌++◌, Option, inl, inr, refl, ap, sym, append-nil}
use Rattle.std.specs.Prelude.{codes, decimal}
use Rattle.netlist_schema.specs.Design.{Design}
use Rattle.edit_spec.specs.declared.ops.Op.{Op}
use Rattle.db_spec.specs.Answers.{HasPlaces}
use Rattle.db_spec.specs.History.{Legal, state_after, version_at}
use Rattle.db_spec.specs.State.{head}
use Rattle.db_spec.specs.declared.event.Answer.TheVariants as answer
use Rattle.db_spec.specs.declared.event.Call.TheVariants as call
use Rattle.db_spec.specs.declared.event.Event.{Event}
use Rattle.db_spec.proofs.Histories.{version_stays}
use Rattle.flat_lines_spec.specs.Lines.{flattening_text}
use Rattle.script_spec.specs.Report.{head_design, word_text}
use Rattle.script_spec.specs.Session.{Abandoned, Began, Collected, Gone, LogFull, NoPin, NoVersion, Pinned, Released, Replied, Walked, Word, Exchange, Goes, Held, Nothing, OnPin, OffPin, InBlock, On, Stop, Told, last_release, release, reply_behind}
use Rattle.script_spec.specs.Texts.{line}
use Rattle.script_spec.specs.declared.script.Step.{Step}
use Rattle.script_spec.specs.declared.script.Step.TheVariants as step
use Rattle.script_run_spec.specs.Calls.{HoldsJust, Makes, Writes}
use Rattle.script_run_spec.specs.Lines.{Begins, GoesOn, IsBroken, IsFilled, IsNoBlock}
use Rattle.script_run_spec.proofs.Pins.{holds_after, one_released}

-- ---- texts

-- one word, whose text is the same however the history goes on
pub writes_one : (d : Design) (seen : List Event) (before text said : List ℕ) (word : Word)
    → ((more : List Event) → word_text (head_design d (seen ++ more)) (version_at d (seen ++ more)) word ≡ said) → text ≡ before ++ said → Writes d seen before text (word ∷ [])
writes_one d seen before text said word same e more legal =
    e ∙ ap (λ (xs : List ℕ). before ++ xs) (sym (append-nil said) ∙ ap (λ (xs : List ℕ). xs ++ []) (sym (same more)))

-- no word
pub writes_none : (d : Design) (seen : List Event) (text : List ℕ) → Writes d seen text text []
writes_none d seen text more legal = sym (append-nil text)

-- ---- calls

-- nothing came
pub makes_nothing : (d : Design) (caller : ℕ) (seen : List Event) → Legal d seen → Makes d caller seen seen []
makes_nothing d caller seen legal = record { legal = legal; more = []; on = sym (append-nil seen); own = refl }

module _ (d : Design) (caller : ℕ) (old new : List Event) (before text : List ℕ) where
  -- ---- pins

  pub pin_goes : (number v : ℕ) → HoldsJust d old caller Nothing → Makes d caller old new (Told call.Pin (answer.Pinned number v) ∷ [])
      → text ≡ before ++ line (codes "pin" ∷ decimal v ∷ []) → GoesOn d caller old new before text Nothing step.Pin (OnPin number v)
  pin_goes number v h m e = record {
    done = Told call.Pin (answer.Pinned number v) ∷ [];
    words = Pinned v ∷ [];
    makes = m;
    goes = λ more. inr (number, v, (refl, refl, refl));
    writes = writes_one d new before text (line (codes "pin" ∷ decimal v ∷ [])) (Pinned v) (λ more. refl) e;
    holds = holds_after d caller old new Nothing (OnPin number v) (Told call.Pin (answer.Pinned number v) ∷ []) h m refl;
  }

  pub pin_at_goes : (wanted number v : ℕ) → HoldsJust d old caller Nothing → Makes d caller old new (Told (call.PinAt wanted) (answer.Pinned number v) ∷ [])
      → text ≡ before ++ line (codes "pin" ∷ decimal v ∷ []) → GoesOn d caller old new before text Nothing (step.PinAt wanted) (OnPin number v)
  pin_at_goes wanted number v h m e = record {
    done = Told (call.PinAt wanted) (answer.Pinned number v) ∷ [];
    words = Pinned v ∷ [];
    makes = m;
    goes = λ more. inr (inl (number, v, (refl, refl, refl)));
    writes = writes_one d new before text (line (codes "pin" ∷ decimal v ∷ [])) (Pinned v) (λ more. refl) e;
    holds = holds_after d caller old new Nothing (OnPin number v) (Told (call.PinAt wanted) (answer.Pinned number v) ∷ []) h m refl;
  }

  pub no_version_goes : (wanted last : ℕ) → HoldsJust d old caller Nothing → Makes d caller old new (Told (call.PinAt wanted) (answer.NoVersion last) ∷ [])
      → text ≡ before ++ line (codes "no-version" ∷ decimal last ∷ []) → GoesOn d caller old new before text Nothing (step.PinAt wanted) OffPin
  no_version_goes wanted last h m e = record {
    done = Told (call.PinAt wanted) (answer.NoVersion last) ∷ [];
    words = NoVersion last ∷ [];
    makes = m;
    goes = λ more. inr (inr (inl (last, (refl, refl, refl))));
    writes = writes_one d new before text (line (codes "no-version" ∷ decimal last ∷ [])) (NoVersion last) (λ more. refl) e;
    holds = holds_after d caller old new Nothing OffPin (Told (call.PinAt wanted) (answer.NoVersion last) ∷ []) h m refl;
  }

  pub gone_goes : (wanted least : ℕ) → HoldsJust d old caller Nothing → Makes d caller old new (Told (call.PinAt wanted) (answer.Gone least) ∷ [])
      → text ≡ before ++ line (codes "gone" ∷ decimal least ∷ []) → GoesOn d caller old new before text Nothing (step.PinAt wanted) OffPin
  gone_goes wanted least h m e = record {
    done = Told (call.PinAt wanted) (answer.Gone least) ∷ [];
    words = Gone least ∷ [];
    makes = m;
    goes = λ more. inr (inr (inr (least, (refl, refl, refl))));
    writes = writes_one d new before text (line (codes "gone" ∷ decimal least ∷ [])) (Gone least) (λ more. refl) e;
    holds = holds_after d caller old new Nothing OffPin (Told (call.PinAt wanted) (answer.Gone least) ∷ []) h m refl;
  }

  pub begin_goes : (retries number v : ℕ) → HoldsJust d old caller Nothing → Makes d caller old new (Told call.Pin (answer.Pinned number v) ∷ [])
      → text ≡ before ++ line (codes "begin" ∷ decimal v ∷ []) → GoesOn d caller old new before text Nothing (step.Begin retries) (InBlock number v retries [])
  begin_goes retries number v h m e = record {
    done = Told call.Pin (answer.Pinned number v) ∷ [];
    words = Began v ∷ [];
    makes = m;
    goes = λ more. inr (number, v, (refl, refl, refl));
    writes = writes_one d new before text (line (codes "begin" ∷ decimal v ∷ [])) (Began v) (λ more. refl) e;
    holds = holds_after d caller old new Nothing (InBlock number v retries []) (Told call.Pin (answer.Pinned number v) ∷ []) h m refl;
  }

  -- the log was full for a line that pins
  pub pin_filled : (s : Step) → ((versions : ℕ → Design) → Goes versions Nothing s [] (LogFull ∷ []) (Stop 2)) → HoldsJust d old caller Nothing → Makes d caller old new []
      → (HasPlaces (state_after d new) 2 → ⊥) → text ≡ before ++ line (codes "log-full" ∷ []) → IsFilled d caller old new before text Nothing s Nothing
  pin_filled s goes h m none e = record {
    done = [];
    words = LogFull ∷ [];
    places = 2;
    makes = m;
    goes = λ more. goes (version_at d (new ++ more));
    writes = writes_one d new before text (line (codes "log-full" ∷ [])) LogFull (λ more. refl) e;
    holds = holds_after d caller old new Nothing Nothing [] h m refl;
    no_places = none;
  }

  -- ---- releases and collects

  pub release_goes : (number v : ℕ) → HoldsJust d old caller (OnPin number v) → Makes d caller old new (release number ∷ [])
      → text ≡ before ++ line (codes "released" ∷ []) → GoesOn d caller old new before text (OnPin number v) step.Release Nothing
  release_goes number v h m e = record {
    done = release number ∷ [];
    words = Released ∷ [];
    makes = m;
    goes = λ more. (refl, refl, refl);
    writes = writes_one d new before text (line (codes "released" ∷ [])) Released (λ more. refl) e;
    holds = holds_after d caller old new (OnPin number v) Nothing (release number ∷ []) h m (one_released caller number v);
  }

  pub abandon_goes : (number v retries : ℕ) (ops : List Op) → HoldsJust d old caller (InBlock number v retries ops) → Makes d caller old new (release number ∷ [])
      → text ≡ before ++ line (codes "abandoned" ∷ []) → GoesOn d caller old new before text (InBlock number v retries ops) step.Abandon Nothing
  abandon_goes number v retries ops h m e = record {
    done = release number ∷ [];
    words = Abandoned ∷ [];
    makes = m;
    goes = λ more. (refl, refl, refl);
    writes = writes_one d new before text (line (codes "abandoned" ∷ [])) Abandoned (λ more. refl) e;
    holds = holds_after d caller old new (InBlock number v retries ops) Nothing (release number ∷ []) h m (one_released caller number v);
  }

collects : (versions : ℕ → Design) (held : Held) (count : ℕ) → IsNoBlock held
    → Goes versions held step.Collect (Told call.Collect (answer.Collected count) ∷ []) (Collected count ∷ []) (On held)
collects versions Nothing count n = inr (count, (refl, refl, refl))
collects versions (OnPin pin v) count n = inr (count, (refl, refl, refl))
collects versions OffPin count n = inr (count, (refl, refl, refl))
collects versions (InBlock pin v retries ops) count n = absurd n

no_collect : (versions : ℕ → Design) (held : Held) → IsNoBlock held → Goes versions held step.Collect (last_release held) (LogFull ∷ []) (Stop 1)
no_collect versions Nothing n = inl (refl, refl, refl)
no_collect versions (OnPin pin v) n = inl (refl, refl, refl)
no_collect versions OffPin n = inl (refl, refl, refl)
no_collect versions (InBlock pin v retries ops) n = absurd n

module _ (d : Design) (caller : ℕ) (old new : List Event) (before text : List ℕ) where
  pub collect_goes : (held : Held) (count : ℕ) → IsNoBlock held → HoldsJust d old caller held → Makes d caller old new (Told call.Collect (answer.Collected count) ∷ [])
      → text ≡ before ++ line (codes "collected" ∷ decimal count ∷ []) → GoesOn d caller old new before text held step.Collect held
  collect_goes held count n h m e = record {
    done = Told call.Collect (answer.Collected count) ∷ [];
    words = Collected count ∷ [];
    makes = m;
    goes = λ more. collects (version_at d (new ++ more)) held count n;
    writes = writes_one d new before text (line (codes "collected" ∷ decimal count ∷ [])) (Collected count) (λ more. refl) e;
    holds = holds_after d caller old new held held (Told call.Collect (answer.Collected count) ∷ []) h m refl;
  }

  pub collect_filled : (held : Held) → IsNoBlock held → HoldsJust d old caller held → Makes d caller old new []
      → (HasPlaces (state_after d new) 1 → ⊥) → text ≡ before ++ line (codes "log-full" ∷ []) → IsFilled d caller old new before text held step.Collect held
  collect_filled held n h m none e = record {
    done = [];
    words = LogFull ∷ [];
    places = 1;
    makes = m;
    goes = λ more. no_collect (version_at d (new ++ more)) held n;
    writes = writes_one d new before text (line (codes "log-full" ∷ [])) LogFull (λ more. refl) e;
    holds = holds_after d caller old new held held [] h m refl;
    no_places = none;
  }

  pub collect_broken : (held : Held) → IsNoBlock held → HoldsJust d old caller held → Makes d caller old new [] → IsBroken d caller old new held step.Collect held
  collect_broken held n h m = record {
    done = [];
    makes = m;
    begins = λ more. (last_release held, LogFull ∷ [], Stop 1, no_collect (version_at d (new ++ more)) held n);
    holds = holds_after d caller old new held held [] h m refl;
  }

  pub collected_broken : (held : Held) (count : ℕ) → IsNoBlock held → HoldsJust d old caller held → Makes d caller old new (Told call.Collect (answer.Collected count) ∷ [])
      → IsBroken d caller old new held step.Collect held
  collected_broken held count n h m = record {
    done = Told call.Collect (answer.Collected count) ∷ [];
    makes = m;
    begins = λ more. ([], Collected count ∷ [], On held, collects (version_at d (new ++ more)) held count n);
    holds = holds_after d caller old new held held (Told call.Collect (answer.Collected count) ∷ []) h m refl;
  }

  -- a line that was broken off
  pub broken : (held next : Held) (s : Step) (done : List Exchange) → Makes d caller old new done → HoldsJust d new caller next
      → ((versions : ℕ → Design) → Begins versions held s done) → IsBroken d caller old new held s next
  broken held next s done m h begins = record { done = done; makes = m; begins = λ more. begins (version_at d (new ++ more)); holds = h }

-- ---- lines without calls

module _ (d : Design) (caller : ℕ) (seen : List Event) (before text : List ℕ) where
  pub off_walk_goes : (limit : Option ℕ) → Legal d seen → HoldsJust d seen caller OffPin → text ≡ before ++ line (codes "no-pin" ∷ []) → GoesOn d caller seen seen before text OffPin (step.Walk limit) OffPin
  off_walk_goes limit legal h e = record {
    done = [];
    words = NoPin ∷ [];
    makes = makes_nothing d caller seen legal;
    goes = λ more. (refl, refl, refl);
    writes = writes_one d seen before text (line (codes "no-pin" ∷ [])) NoPin (λ more. refl) e;
    holds = h;
  }

  pub off_release_goes : Legal d seen → HoldsJust d seen caller OffPin → text ≡ before ++ line (codes "no-pin" ∷ []) → GoesOn d caller seen seen before text OffPin step.Release Nothing
  off_release_goes legal h e = record {
    done = [];
    words = NoPin ∷ [];
    makes = makes_nothing d caller seen legal;
    goes = λ more. (refl, refl, refl);
    writes = writes_one d seen before text (line (codes "no-pin" ∷ [])) NoPin (λ more. refl) e;
    holds = h;
  }

  pub walk_goes : (number v : ℕ) (limit : Option ℕ) → Legal d seen → HoldsJust d seen caller (OnPin number v) → v ≤ head (state_after d seen)
      → text ≡ before ++ flattening_text (version_at d seen v) limit → GoesOn d caller seen seen before text (OnPin number v) (step.Walk limit) (OnPin number v)
  walk_goes number v limit legal h le e = record {
    done = [];
    words = Walked v limit ∷ [];
    makes = makes_nothing d caller seen legal;
    goes = λ more. (refl, refl, refl);
    writes = writes_one d seen before text (flattening_text (version_at d seen v) limit) (Walked v limit)
        (λ more. ap (λ (e : Design). flattening_text e limit) (version_stays d seen more v le)) e;
    holds = h;
  }

  pub op_goes : (number v retries : ℕ) (ops : List Op) (op : Op) → Legal d seen → HoldsJust d seen caller (InBlock number v retries ops) → v ≤ head (state_after d seen)
      → text ≡ before ++ word_text d (version_at d seen) (Replied (reply_behind (version_at d seen v) ops op))
      → GoesOn d caller seen seen before text (InBlock number v retries ops) (step.Run op) (InBlock number v retries (ops ++ op ∷ []))
  op_goes number v retries ops op legal h le e = record {
    done = [];
    words = Replied (reply_behind (version_at d seen v) ops op) ∷ [];
    makes = makes_nothing d caller seen legal;
    goes = λ more. (refl, ap (λ (e : Design). Replied (reply_behind e ops op) ∷ []) (sym (version_stays d seen more v le)), refl);
    writes = writes_one d seen before text (word_text d (version_at d seen) (Replied (reply_behind (version_at d seen v) ops op))) (Replied (reply_behind (version_at d seen v) ops op)) (λ more. refl) e;
    holds = h;
  }
