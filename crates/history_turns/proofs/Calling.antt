-- What a call of a line comes to, from what the database says of it.
use Rattle.std.proofs.Common.{◌≡◌, ◌∙◌, ℕ, Bool, true, false, List, [], ◌∷◌, ◌++◌, refl, ap, sym, subst}
use Rattle.std.specs.Prelude.{Option, Some, None, Result, Ok, Err, IfOk, codes, decimal}
use Rattle.netlist_schema.specs.Design.{Design}
use Rattle.edit_spec.specs.declared.ops.Op.{Op}
use Rattle.edit_tx.specs.Facts.{PinFacts, started}
use Rattle.db_spec.specs.Answers.{HasRoom}
use Rattle.db_spec.specs.History.{Legal, version_at}
use Rattle.db_spec.specs.declared.event.Answer.TheVariants as answer
use Rattle.db_spec.specs.declared.event.Call.{Call}
use Rattle.db_spec.specs.declared.event.Call.TheVariants as call
use Rattle.db_spec.specs.declared.event.Event.{Event}
use Rattle.db_core.specs.Calls.{Adds, Pins, Releases, event_of}
use Rattle.db_core.specs.Story.{Story, state}
use Rattle.db_core.proofs.Staying.{pin_stays_on}
use Rattle.script_spec.specs.Report.{head_design, word_text}
use Rattle.script_spec.specs.Session.{Abandoned, Began, Collected, Gone, InBlock, LogFull, NoVersion, Nothing, OffPin, OnPin, Pinned, Released, Told, Word}
use Rattle.script_spec.specs.Texts.{line}
use Rattle.script_spec.specs.declared.script.Step.{Step}
use Rattle.script_spec.specs.declared.script.Step.TheVariants as step
use Rattle.script_run_spec.specs.Calls.{Writes}
use Rattle.script_run_spec.proofs.OneLine.{writes_none, writes_one}
use Rattle.history_check_spec.specs.Left.{Between, Leads, Owes, Phase, next_call}
use Rattle.history_check_spec.proofs.Committing.{full_commit_leads}
use Rattle.history_check_spec.proofs.Leading.{abandon_leads, begin_leads, end_leads, free_collect_leads, full_collect_leads, gone_leads, no_version_leads, off_collect_leads, owes_again_leads, owes_leads, pin_at_leads, pin_collect_leads, pin_leads, release_leads}
use Rattle.history_turns.specs.Moves.{Called, Comes, IsCutOff, IsStuck, Owed}
use Rattle.history_turns.specs.Seats.{IsAt, IsFree, IsPinBy, phase_of}
use Rattle.history_turns.specs.declared.seats.At.{At}
use Rattle.history_turns.specs.declared.seats.At.TheVariants as at
use Rattle.history_turns.specs.declared.seats.Block.{Block}

-- ---- refusals

same_some : (a b : Call) → Some a ≡ Some b → a ≡ b
same_some a b e = cc (e)

pub stuck_by : (old : Story) (r : Bool) (phase : Phase) (lines : List Step) (c : Call) → next_call r phase lines ≡ Some c → ¬ HasRoom (state old) c → IsStuck old r phase lines
stuck_by old r phase lines c wanted full other is = subst (λ (z : Call). ¬ HasRoom (state old) z) (same_some c other (sym wanted ∙ is)) full

pub no_call : (old : Story) (r : Bool) (phase : Phase) (lines : List Step) → next_call r phase lines ≡ None → IsStuck old r phase lines
no_call old r phase lines none other is = let wrong : None ≡ Some other = sym none ∙ is in absurd (cc (wrong))

-- ---- pins

-- an event by the caller that is not the release of its pin
pub pin_kept : (old new : Story) (event : Event) (caller : ℕ) (pin : PinFacts) → Legal old.opening old.events → Adds old new event → (event.call ≡ call.Release pin.number → ⊥) → IsPinBy old caller pin → IsPinBy new caller pin
pin_kept old new event caller pin legal adds other mine = record {
  is_pin = pin_stays_on old new event pin legal adds (λ r. other r.1) mine.is_pin;
  caller_is = mine.caller_is;
}

-- the pins of other callers
pub others_kept : (old new : Story) (event : Event) (caller : ℕ) (at : At) → Legal old.opening old.events → Adds old new event → (event.caller ≡ caller → ⊥) → IsAt old caller at → IsAt new caller at
others_kept old new event caller at.Free legal adds other mine = tt
others_kept old new event caller (at.OnPin pin) legal adds other mine = record {
  is_pin = pin_stays_on old new event pin legal adds (λ r. other (r.0 ∙ mine.caller_is)) mine.is_pin;
  caller_is = mine.caller_is;
}
others_kept old new event caller at.OffPin legal adds other mine = tt
others_kept old new event caller (at.InBlock block) legal adds other mine = record {
  is_pin = pin_stays_on old new event block.tx.pin legal adds (λ r. other (r.0 ∙ mine.caller_is)) mine.is_pin;
  caller_is = mine.caller_is;
}
others_kept old new event caller (at.Owes pin) legal adds other mine = record {
  is_pin = pin_stays_on old new event pin legal adds (λ r. other (r.0 ∙ mine.caller_is)) mine.is_pin;
  caller_is = mine.caller_is;
}
others_kept old new event caller (at.OwesAgain block) legal adds other mine = record {
  is_pin = pin_stays_on old new event block.tx.pin legal adds (λ r. other (r.0 ∙ mine.caller_is)) mine.is_pin;
  caller_is = mine.caller_is;
}
others_kept old new event caller (at.Again ops retries) legal adds other mine = tt
others_kept old new event caller (at.Over places) legal adds other mine = tt

-- ---- lines

module _ (old new : Story) (caller : ℕ) (r : Bool) (before text : List ℕ) where
  -- one line of a word that is the same however the history goes on
  writes : (said : List ℕ) (word : Word) → ((more : List Event) → word_text (head_design new.opening (new.events ++ more)) (version_at new.opening (new.events ++ more)) word ≡ said)
      → text ≡ before ++ said → Writes new.opening new.events before text (word ∷ [])
  writes said word same e = writes_one new.opening new.events before text said word same e

  pub pinned_at : (pin : PinFacts) (v : ℕ) → v ≡ pin.version → text ≡ before ++ line (codes "pin" ∷ decimal v ∷ []) → Writes new.opening new.events before text (Pinned pin.version ∷ [])
  pinned_at pin v is e = writes (line (codes "pin" ∷ decimal pin.version ∷ [])) (Pinned pin.version) (λ more. refl) (e ∙ ap (λ (n : ℕ). before ++ line (codes "pin" ∷ decimal n ∷ [])) is)

  pub pin_called : (pin : PinFacts) (v : ℕ) → v ≡ pin.version → Pins old new caller call.Pin pin → text ≡ before ++ line (codes "pin" ∷ decimal v ∷ [])
      → Called old new caller r (Between Nothing) step.Pin before text (at.OnPin pin)
  pin_called pin v is p e = record {
    moves = λ lines. record {
      call = call.Pin;
      answer = answer.Pinned pin.number pin.version;
      adds = p.adds;
      wanted = refl;
      words = Pinned pin.version ∷ [];
      leads = λ more. pin_leads (version_at new.opening (new.events ++ more)) pin.number pin.version lines;
      writes = pinned_at pin v is e;
    };
    pin = record { is_pin = p.is_pin; caller_is = p.caller_is };
  }

  pub pin_at_called : (wanted : ℕ) (pin : PinFacts) (v : ℕ) → v ≡ pin.version → Pins old new caller (call.PinAt wanted) pin → text ≡ before ++ line (codes "pin" ∷ decimal v ∷ [])
      → Called old new caller r (Between Nothing) (step.PinAt wanted) before text (at.OnPin pin)
  pin_at_called wanted pin v is p e = record {
    moves = λ lines. record {
      call = call.PinAt wanted;
      answer = answer.Pinned pin.number pin.version;
      adds = p.adds;
      wanted = refl;
      words = Pinned pin.version ∷ [];
      leads = λ more. pin_at_leads (version_at new.opening (new.events ++ more)) wanted pin.number pin.version lines;
      writes = pinned_at pin v is e;
    };
    pin = record { is_pin = p.is_pin; caller_is = p.caller_is };
  }

  pub no_version_called : (wanted last : ℕ) → Adds old new (event_of caller (call.PinAt wanted) (answer.NoVersion last)) → text ≡ before ++ line (codes "no-version" ∷ decimal last ∷ [])
      → Called old new caller r (Between Nothing) (step.PinAt wanted) before text at.OffPin
  no_version_called wanted last adds e = record {
    moves = λ lines. record {
      call = call.PinAt wanted;
      answer = answer.NoVersion last;
      adds = adds;
      wanted = refl;
      words = NoVersion last ∷ [];
      leads = λ more. no_version_leads (version_at new.opening (new.events ++ more)) wanted last lines;
      writes = writes _ (NoVersion last) (λ more. refl) e;
    };
    pin = tt;
  }

  pub gone_called : (wanted least : ℕ) → Adds old new (event_of caller (call.PinAt wanted) (answer.Gone least)) → text ≡ before ++ line (codes "gone" ∷ decimal least ∷ [])
      → Called old new caller r (Between Nothing) (step.PinAt wanted) before text at.OffPin
  gone_called wanted least adds e = record {
    moves = λ lines. record {
      call = call.PinAt wanted;
      answer = answer.Gone least;
      adds = adds;
      wanted = refl;
      words = Gone least ∷ [];
      leads = λ more. gone_leads (version_at new.opening (new.events ++ more)) wanted least lines;
      writes = writes _ (Gone least) (λ more. refl) e;
    };
    pin = tt;
  }

  -- a transaction of which nothing was run, on this pin
  begun : (retries : ℕ) (pin : PinFacts) → Pins old new caller call.Pin pin → text ≡ before ++ line (codes "begin" ∷ decimal pin.version ∷ [])
      → Called old new caller r (Between Nothing) (step.Begin retries) before text (at.InBlock (record { tx = started pin; retries = retries }))
  begun retries pin p e = record {
    moves = λ lines. record {
      call = call.Pin;
      answer = answer.Pinned pin.number pin.version;
      adds = p.adds;
      wanted = refl;
      words = Began pin.version ∷ [];
      leads = λ more. begin_leads (version_at new.opening (new.events ++ more)) retries pin.number pin.version lines;
      writes = writes _ (Began pin.version) (λ more. refl) e;
    };
    pin = record { is_pin = p.is_pin; caller_is = p.caller_is };
  }

  pub begin_called : (retries : ℕ) (pin : PinFacts) (v : ℕ) (block : Block) → v ≡ pin.version → Pins old new caller call.Pin pin → text ≡ before ++ line (codes "begin" ∷ decimal v ∷ [])
      → block.tx ≡ started pin → block.retries ≡ retries → Called old new caller r (Between Nothing) (step.Begin retries) before text (at.InBlock block)
  begin_called retries pin v block is p e tx left =
      let same : block ≡ record { tx = started pin; retries = retries } = λ i. record { tx = tx i; retries = left i } in
      subst (λ (b : Block). Called old new caller r (Between Nothing) (step.Begin retries) before text (at.InBlock b)) (sym same)
      (begun retries pin p (e ∙ ap (λ (n : ℕ). before ++ line (codes "begin" ∷ decimal n ∷ [])) is))

  -- ---- releases

  pub release_called : (pin : PinFacts) → Releases old new pin → text ≡ before ++ line (codes "released" ∷ [])
      → Called old new pin.caller r (Between (OnPin pin.number pin.version)) step.Release before text at.Free
  release_called pin adds e = record {
    moves = λ lines. record {
      call = call.Release pin.number;
      answer = answer.Released;
      adds = adds;
      wanted = refl;
      words = Released ∷ [];
      leads = λ more. release_leads (version_at new.opening (new.events ++ more)) pin.number pin.version lines;
      writes = writes _ Released (λ more. refl) e;
    };
    pin = tt;
  }

  pub abandon_called : (block : Block) (pin : PinFacts) → pin ≡ block.tx.pin → Releases old new pin → text ≡ before ++ line (codes "abandoned" ∷ [])
      → Called old new block.tx.pin.caller r (phase_of (at.InBlock block)) step.Abandon before text at.Free
  abandon_called block pin is adds e = record {
    moves = λ lines. record {
      call = call.Release block.tx.pin.number;
      answer = answer.Released;
      adds = subst (λ (p : PinFacts). Releases old new p) is adds;
      wanted = refl;
      words = Abandoned ∷ [];
      leads = λ more. abandon_leads (version_at new.opening (new.events ++ more)) block.tx.pin.number block.tx.pin.version block.retries block.tx.ops lines;
      writes = writes _ Abandoned (λ more. refl) e;
    };
    pin = tt;
  }

-- ---- collects

module _ (old new : Story) (caller : ℕ) (before text : List ℕ) (count : ℕ) (legal : Legal old.opening old.events) (adds : Adds old new (event_of caller call.Collect (answer.Collected count)))
    (e : text ≡ before ++ line (codes "collected" ∷ decimal count ∷ [])) where
  said_collected : Writes new.opening new.events before text (Collected count ∷ [])
  said_collected = writes_one new.opening new.events before text _ (Collected count) (λ more. refl) e

  no_release : (pin : ℕ) → call.Collect ≡ call.Release pin → ⊥
  no_release pin is = cc (is)

  pub collect_called : (a : At) → IsFree a → IsAt old caller a → Called old new caller false (phase_of a) step.Collect before text a
  collect_called at.Free free mine = record {
    moves = λ lines. record {
      call = call.Collect;
      answer = answer.Collected count;
      adds = adds;
      wanted = refl;
      words = Collected count ∷ [];
      leads = λ more. free_collect_leads (version_at new.opening (new.events ++ more)) count lines;
      writes = said_collected;
    };
    pin = tt;
  }
  collect_called (at.OnPin pin) free mine = record {
    moves = λ lines. record {
      call = call.Collect;
      answer = answer.Collected count;
      adds = adds;
      wanted = refl;
      words = Collected count ∷ [];
      leads = λ more. pin_collect_leads (version_at new.opening (new.events ++ more)) pin.number pin.version count lines;
      writes = said_collected;
    };
    pin = pin_kept old new (event_of caller call.Collect (answer.Collected count)) caller pin legal adds (no_release pin.number) mine;
  }
  collect_called at.OffPin free mine = record {
    moves = λ lines. record {
      call = call.Collect;
      answer = answer.Collected count;
      adds = adds;
      wanted = refl;
      words = Collected count ∷ [];
      leads = λ more. off_collect_leads (version_at new.opening (new.events ++ more)) count lines;
      writes = said_collected;
    };
    pin = tt;
  }
  collect_called other free mine = absurd free

pub collect_stuck : (old : Story) (a : At) → IsFree a → ¬ HasRoom (state old) call.Collect → (lines : List Step) → IsStuck old false (phase_of a) (step.Collect ∷ lines)
collect_stuck old at.Free free full lines = stuck_by old false (Between Nothing) (step.Collect ∷ lines) call.Collect refl full
collect_stuck old (at.OnPin pin) free full lines = stuck_by old false (Between (OnPin pin.number pin.version)) (step.Collect ∷ lines) call.Collect refl full
collect_stuck old at.OffPin free full lines = stuck_by old false (Between OffPin) (step.Collect ∷ lines) call.Collect refl full
collect_stuck old other free full lines = absurd free

-- where a collect is told to be no release, or nothing is held, it is the call
pub collect_any : (old new : Story) (caller : ℕ) (r : Bool) (before text : List ℕ) (next : At) → Called old new caller false (Between Nothing) step.Collect before text next → Called old new caller r (Between Nothing) step.Collect before text next
collect_any old new caller r before text next c = record {
  moves = λ lines.
      let m = c.moves lines in
      record { call = m.call; answer = m.answer; adds = m.adds; wanted = m.wanted; words = m.words; leads = m.leads; writes = m.writes };
  pin = c.pin;
}

pub collect_off : (old new : Story) (caller : ℕ) (r : Bool) (before text : List ℕ) (next : At) → Called old new caller false (Between OffPin) step.Collect before text next → Called old new caller r (Between OffPin) step.Collect before text next
collect_off old new caller r before text next c = record {
  moves = λ lines.
      let m = c.moves lines in
      record { call = m.call; answer = m.answer; adds = m.adds; wanted = m.wanted; words = m.words; leads = m.leads; writes = m.writes };
  pin = c.pin;
}

module _ {E : Type 0} (old new : Story) (caller : ℕ) (r : Bool) (before text : List ℕ) where
  pub free_collects : (result : Result (Option At) E) → IfOk result (Comes old new caller false (Between Nothing) step.Collect before text) → IfOk result (Comes old new caller r (Between Nothing) step.Collect before text)
  free_collects (Err e) h = tt
  free_collects (Ok None) h = λ lines c is. h lines c is
  free_collects (Ok (Some next)) h = collect_any old new caller r before text next h

  pub off_collects : (result : Result (Option At) E) → IfOk result (Comes old new caller false (Between OffPin) step.Collect before text) → IfOk result (Comes old new caller r (Between OffPin) step.Collect before text)
  off_collects (Err e) h = tt
  off_collects (Ok None) h = λ lines c is. h lines c is
  off_collects (Ok (Some next)) h = collect_off old new caller r before text next h

-- ---- the pin of another name

-- a call of the caller who holds the pin
pub called_by : (old new : Story) (other caller : ℕ) (r : Bool) (phase : Phase) (s : Step) (before text : List ℕ) (next : At) → other ≡ caller → Called old new other r phase s before text next → Called old new caller r phase s before text next
called_by old new other caller r phase s before text next is c = subst (λ (n : ℕ). Called old new n r phase s before text next) is c

-- ---- full logs

module _ (old new : Story) (caller : ℕ) (pin : PinFacts) (before text : List ℕ) (next : At) (mine : IsPinBy old caller pin) (g : IsCutOff old new pin before text next) where
  given : Adds old new (event_of caller (call.Release pin.number) answer.Released)
  given = subst (λ (n : ℕ). Adds old new (event_of n (call.Release pin.number) answer.Released)) mine.caller_is g.adds

  said_full : Writes new.opening new.events before text (LogFull ∷ [])
  said_full = writes_one new.opening new.events before text _ LogFull (λ more. refl) g.said

  over_pin : Called old new caller true (Between (OnPin pin.number pin.version)) step.Collect before text (at.Over 1)
  over_pin = record {
    moves = λ lines. record {
      call = call.Release pin.number;
      answer = answer.Released;
      adds = given;
      wanted = refl;
      words = LogFull ∷ [];
      leads = λ more. full_collect_leads (version_at new.opening (new.events ++ more)) pin.number pin.version lines;
      writes = said_full;
    };
    pin = tt;
  }

  pub cut_off_pin : Called old new caller true (Between (OnPin pin.number pin.version)) step.Collect before text next
  cut_off_pin = subst (λ (a : At). Called old new caller true (Between (OnPin pin.number pin.version)) step.Collect before text a) (sym g.over) over_pin

  over_block : (retries : ℕ) (ops : List Op) → Called old new caller true (Between (InBlock pin.number pin.version retries ops)) step.Commit before text (at.Over 1)
  over_block retries ops = record {
    moves = λ lines. record {
      call = call.Release pin.number;
      answer = answer.Released;
      adds = given;
      wanted = refl;
      words = LogFull ∷ [];
      leads = λ more. full_commit_leads (version_at new.opening (new.events ++ more)) pin.number pin.version ops lines retries;
      writes = said_full;
    };
    pin = tt;
  }

  pub cut_off_block : (retries : ℕ) (ops : List Op) → Called old new caller true (Between (InBlock pin.number pin.version retries ops)) step.Commit before text next
  cut_off_block retries ops = subst (λ (a : At). Called old new caller true (Between (InBlock pin.number pin.version retries ops)) step.Commit before text a) (sym g.over) (over_block retries ops)

-- the pin of a transaction
pub cut_off_commit : (old new : Story) (caller : ℕ) (block : Block) (pin : PinFacts) (before text : List ℕ) (next : At) → pin ≡ block.tx.pin → IsPinBy old caller block.tx.pin → IsCutOff old new pin before text next
    → Called old new caller true (phase_of (at.InBlock block)) step.Commit before text next
cut_off_commit old new caller block pin before text next is mine g =
    cut_off_block old new caller block.tx.pin before text next mine (subst (λ (p : PinFacts). IsCutOff old new p before text next) is g) block.retries block.tx.ops

-- ---- the end of the lines, and what is owed

-- a release without a word
released : (old new : Story) (caller : ℕ) (r : Bool) (phase : Phase) (lines : List Step) (text : List ℕ) (pin : PinFacts) (next : At) → IsPinBy old caller pin → Releases old new pin
    → next_call r phase lines ≡ Some (call.Release pin.number) → ((versions : ℕ → Design) → Leads versions phase lines (Told (call.Release pin.number) answer.Released ∷ []) [] (phase_of next) lines) → IsAt new caller next
    → Owed old new caller r phase lines text text next
released old new caller r phase lines text pin next mine adds wanted leads kept = record {
  moves = record {
    call = call.Release pin.number;
    answer = answer.Released;
    adds = subst (λ (n : ℕ). Adds old new (event_of n (call.Release pin.number) answer.Released)) mine.caller_is adds;
    wanted = wanted;
    words = [];
    leads = λ more. leads (version_at new.opening (new.events ++ more));
    writes = writes_none new.opening new.events text;
  };
  pin = kept;
}

pub pin_ended : (old new : Story) (caller : ℕ) (r : Bool) (text : List ℕ) (pin : PinFacts) → IsPinBy old caller pin → Releases old new pin → Owed old new caller r (Between (OnPin pin.number pin.version)) [] text text at.Free
pin_ended old new caller r text pin mine adds =
    released old new caller r (Between (OnPin pin.number pin.version)) [] text pin at.Free mine adds refl (λ vs. end_leads vs (OnPin pin.number pin.version) pin.number refl) tt

pub block_ended : (old new : Story) (caller : ℕ) (r : Bool) (text : List ℕ) (block : Block) (pin : PinFacts) → pin ≡ block.tx.pin → IsPinBy old caller block.tx.pin → Releases old new pin
    → Owed old new caller r (phase_of (at.InBlock block)) [] text text at.Free
block_ended old new caller r text block pin is mine adds =
    released old new caller r (phase_of (at.InBlock block)) [] text block.tx.pin at.Free mine (subst (λ (p : PinFacts). Releases old new p) is adds) refl
    (λ vs. end_leads vs (InBlock block.tx.pin.number block.tx.pin.version block.retries block.tx.ops) block.tx.pin.number refl) tt

pub owes_released : (old new : Story) (caller : ℕ) (r : Bool) (lines : List Step) (text : List ℕ) (pin : PinFacts) → IsPinBy old caller pin → Releases old new pin → Owed old new caller r (Owes pin.number) lines text text at.Free
owes_released old new caller r lines text pin mine adds = released old new caller r (Owes pin.number) lines text pin at.Free mine adds refl (λ vs. owes_leads vs pin.number lines) tt

pub owes_again_released : (old new : Story) (caller : ℕ) (r : Bool) (lines : List Step) (text : List ℕ) (block : Block) (pin : PinFacts) (ops : List Op) → pin ≡ block.tx.pin → ops ≡ block.tx.ops → IsPinBy old caller block.tx.pin
    → Releases old new pin → Owed old new caller r (phase_of (at.OwesAgain block)) lines text text (at.Again ops block.retries)
owes_again_released old new caller r lines text block pin ops is same mine adds =
    subst (λ (z : List Op). Owed old new caller r (phase_of (at.OwesAgain block)) lines text text (at.Again z block.retries)) (sym same)
    (released old new caller r (phase_of (at.OwesAgain block)) lines text block.tx.pin (at.Again block.tx.ops block.retries) mine (subst (λ (p : PinFacts). Releases old new p) is adds) refl
    (λ vs. owes_again_leads vs block.tx.pin.number block.retries block.tx.ops lines) tt)
