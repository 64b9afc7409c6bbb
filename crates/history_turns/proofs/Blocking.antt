-- What the commit of a transaction comes to, and what it is to run it again.
use Rattle.std.proofs.Common.{◌≡◌, ◌∙◌, ℕ, zero, suc, Bool, false, List, [], ◌∷◌, ◌++◌, map, refl, ap, sym, subst, append_assoc, append-nil}
use Rattle.std.specs.Prelude.{codes, decimal}
use Rattle.netlist_schema.specs.Design.{Design}
use Rattle.netlist_schema.specs.Types.{Object}
use Rattle.edit_rules_spec.specs.declared.reply.Reply.{Reply}
use Rattle.edit_spec.specs.Step.{run}
use Rattle.edit_spec.specs.declared.ops.Op.{Op}
use Rattle.edit_tx.specs.Facts.{PinFacts, TxFacts}
use Rattle.db_spec.specs.Answers.{HasRoom}
use Rattle.db_spec.specs.History.{Legal, version_at}
use Rattle.db_spec.specs.declared.event.Answer.TheVariants as answer
use Rattle.db_spec.specs.declared.event.Call.TheVariants as call
use Rattle.db_spec.specs.declared.event.Event.{Event}
use Rattle.db_spec.proofs.Histories.{legal-left, version_stays}
use Rattle.db_spec.proofs.Made.{conflict_is_there}
use Rattle.db_spec.specs.State.{opening}
use Rattle.db_core.specs.Calls.{Accepts, Adds, Pins, commit_event, commit_of, event_of}
use Rattle.db_core.specs.Story.{Story, IsPinOf, state}
use Rattle.db_core.proofs.Staying.{pinned_there, still_legal}
use Rattle.script_spec.specs.Report.{head_design, transcript}
use Rattle.script_spec.specs.Session.{Began, Committed, Conflict, InBlock, Replied, Told, Word, replied}
use Rattle.script_spec.specs.Texts.{conflict_words, line, reply_text}
use Rattle.script_spec.specs.declared.script.Step.{Step}
use Rattle.script_spec.specs.declared.script.Step.TheVariants as step
use Rattle.script_spec.proofs.Settled.{words_stay}
use Rattle.script_run_spec.specs.Calls.{Writes}
use Rattle.script_run_spec.proofs.OneLine.{writes_one}
use Rattle.history_check_spec.specs.Left.{Again, Between, Leads}
use Rattle.history_check_spec.proofs.Committing.{accepted_leads, again_leads, conflict_leads, gave_up_leads}
use Rattle.history_check_spec.proofs.Meeting.{head_grown}
use Rattle.history_turns.specs.Moves.{Called, IsStuck, Moves, Owed, reply_lines}
use Rattle.history_turns.specs.Seats.{IsPinBy, phase_of}
use Rattle.history_turns.specs.declared.seats.At.{At}
use Rattle.history_turns.specs.declared.seats.At.TheVariants as at
use Rattle.history_turns.specs.declared.seats.Block.{Block}
use Rattle.history_turns.proofs.Calling.{pin_kept, stuck_by}

-- ---- commits

not_release : (number : ℕ) (ops : List Op) (pin : ℕ) → call.Commit number ops ≡ call.Release pin → ⊥
not_release number ops pin e = cc (e)

module _ (old new : Story) (before text : List ℕ) (block : Block) (legal : Legal old.opening old.events) (mine : IsPinOf old block.tx.pin) where
  accepted_called : (version : ℕ) → Adds old new (commit_event block.tx (answer.Committed version block.tx.replies)) → text ≡ before ++ line (codes "committed" ∷ decimal version ∷ [])
      → Called old new block.tx.pin.caller false (phase_of (at.InBlock block)) step.Commit before text (at.Owes block.tx.pin)
  accepted_called version adds e = record {
    moves = λ lines. record {
      call = commit_of block.tx;
      answer = answer.Committed version block.tx.replies;
      adds = adds;
      wanted = refl;
      words = Committed version ∷ [];
      leads = λ more. accepted_leads (version_at new.opening (new.events ++ more)) block.tx.pin.number block.tx.pin.version block.tx.ops lines block.retries version block.tx.replies;
      writes = writes_one new.opening new.events before text _ (Committed version) (λ more. refl) e;
    };
    pin = pin_kept old new (commit_event block.tx (answer.Committed version block.tx.replies)) block.tx.pin.caller block.tx.pin legal adds (not_release block.tx.pin.number block.tx.ops block.tx.pin.number)
        (record { is_pin = mine; caller_is = refl });
  }

  pub commit_accepted : (version : ℕ) (pin : PinFacts) → Accepts old new block.tx version pin → text ≡ before ++ line (codes "committed" ∷ decimal version ∷ [])
      → Called old new block.tx.pin.caller false (phase_of (at.InBlock block)) step.Commit before text (at.Owes pin)
  commit_accepted version pin a e =
      subst (λ (p : PinFacts). Called old new block.tx.pin.caller false (phase_of (at.InBlock block)) step.Commit before text (at.Owes p)) (sym a.pin_is) (accepted_called version a.adds e)

  pub commit_stuck : ¬ HasRoom (state old) (commit_of block.tx) → (lines : List Step) → IsStuck old false (phase_of (at.InBlock block)) (step.Commit ∷ lines)
  commit_stuck full lines = stuck_by old false (phase_of (at.InBlock block)) (step.Commit ∷ lines) (commit_of block.tx) refl full

  -- ---- conflicts

  module _ (object : Object) (w : ℕ) (adds : Adds old new (commit_event block.tx (answer.Conflict object w))) (e : text ≡ before ++ line (conflict_words (head_design new.opening new.events) object w)) where
    abbrev event : Event
    event = commit_event block.tx (answer.Conflict object w)

    abbrev Then : Story → Type 0
    Then story = text ≡ before ++ line (conflict_words (head_design story.opening story.events) object w) → Writes story.opening story.events before text (Conflict object w ∷ [])

    names_stay : (more : List Event) → Legal old.opening (old.events ++ more)
        → line (conflict_words (head_design old.opening (old.events ++ more)) object w) ≡ line (conflict_words (head_design old.opening old.events) object w)
    names_stay more later =
        let there = conflict_is_there old.opening old.events block.tx.pin.caller block.tx.pin.number block.tx.ops object w adds.admits.answers in
        ap (λ words. line (codes "conflict" ∷ (words ++ codes "version" ∷ decimal w ∷ []))) (words_stay (head_design old.opening old.events) (head_design old.opening (old.events ++ more)) object (head_grown old.opening old.events more later) there)

    then_here : Then (record { opening = old.opening; events = old.events ++ event ∷ [] })
    then_here is more later =
        let on : (old.events ++ event ∷ []) ++ more ≡ old.events ++ (event ∷ more) = append_assoc old.events (event ∷ []) more in
        let first = names_stay (event ∷ []) (legal-left (opening old.opening) (old.events ++ event ∷ []) more later) in
        let second = names_stay (event ∷ more) (subst (λ (z : List Event). Legal old.opening z) on later) in
        let same : line (conflict_words (head_design old.opening (old.events ++ event ∷ [])) object w) ≡ line (conflict_words (head_design old.opening ((old.events ++ event ∷ []) ++ more)) object w) =
        first ∙ sym second ∙ ap (λ (z : List Event). line (conflict_words (head_design old.opening z) object w)) (sym on) in
        is ∙ ap (λ (z : List ℕ). before ++ z) (same ∙ sym (append-nil _))

    conflict_writes : Writes new.opening new.events before text (Conflict object w ∷ [])
    conflict_writes =
        let story : new ≡ record { opening = old.opening; events = old.events ++ event ∷ [] } = λ i. record { opening = adds.opening i; events = adds.events i } in
        subst Then (sym story) then_here e

    kept : IsPinBy new block.tx.pin.caller block.tx.pin
    kept = pin_kept old new event block.tx.pin.caller block.tx.pin legal adds (not_release block.tx.pin.number block.tx.ops block.tx.pin.number) (record { is_pin = mine; caller_is = refl })

-- by the retries that are left, where the transaction is given back as it was
pub commit_refused : (old new : Story) (before text : List ℕ) (tx : TxFacts) (retries : ℕ) (next : At) → Legal old.opening old.events → IsPinOf old tx.pin → (object : Object) (w : ℕ)
    → Adds old new (commit_event tx (answer.Conflict object w)) → text ≡ before ++ line (conflict_words (head_design new.opening new.events) object w)
    → (retries ≡ 0 → next ≡ at.Owes tx.pin) → ((left : ℕ) → retries ≡ suc left → next ≡ at.OwesAgain (record { tx = tx; retries = left }))
    → Called old new tx.pin.caller false (phase_of (at.InBlock (record { tx = tx; retries = retries }))) step.Commit before text next
commit_refused old new before text tx zero next legal mine object w adds e none again =
    let block : Block = record { tx = tx; retries = 0 } in
    subst (λ (a : At). Called old new tx.pin.caller false (phase_of (at.InBlock block)) step.Commit before text a) (sym (none refl))
    (record {
      moves = λ lines. record {
        call = commit_of tx;
        answer = answer.Conflict object w;
        adds = adds;
        wanted = refl;
        words = Conflict object w ∷ [];
        leads = λ more. gave_up_leads (version_at new.opening (new.events ++ more)) tx.pin.number tx.pin.version tx.ops lines object w;
        writes = conflict_writes old new before text block legal mine object w adds e;
      };
      pin = kept old new before text block legal mine object w adds e;
    })
commit_refused old new before text tx (suc n) next legal mine object w adds e none again =
    let block : Block = record { tx = tx; retries = suc n } in
    subst (λ (a : At). Called old new tx.pin.caller false (phase_of (at.InBlock block)) step.Commit before text a) (sym (again n refl))
    (record {
      moves = λ lines. record {
        call = commit_of tx;
        answer = answer.Conflict object w;
        adds = adds;
        wanted = refl;
        words = Conflict object w ∷ [];
        leads = λ more. conflict_leads (version_at new.opening (new.events ++ more)) tx.pin.number tx.pin.version n tx.ops lines object w;
        writes = conflict_writes old new before text block legal mine object w adds e;
      };
      pin = kept old new before text block legal mine object w adds e;
    })

-- ---- again

-- what the words for replies say
replies_said : (d : Design) (history : List Event) (replies : List Reply) → transcript d history (map Replied replies) ≡ reply_lines replies
replies_said d history [] = refl
replies_said d history (reply ∷ replies) = ap (λ (text : List ℕ). line (reply_text reply ∷ []) ++ text) (replies_said d history replies)

-- a pinned version stays what it is
pub version_is : (story : Story) (pin : PinFacts) (more : List Event) → Legal story.opening story.events → IsPinOf story pin → version_at story.opening (story.events ++ more) pin.version ≡ pin.design
version_is story pin more legal mine = version_stays story.opening story.events more pin.version (pinned_there story pin legal mine) ∙ sym mine.design

module _ (old new : Story) (caller : ℕ) (r : Bool) (before text : List ℕ) (pin : PinFacts) (retries : ℕ) (ops : List Op) (lines : List Step) (legal : Legal old.opening old.events)
    (p : Pins old new caller call.Pin pin) (e : text ≡ (before ++ line (codes "begin" ∷ decimal pin.version ∷ [])) ++ reply_lines (run pin.design ops).replies) where
  legal_now : Legal new.opening new.events
  legal_now = still_legal old new (event_of caller call.Pin (answer.Pinned pin.number pin.version)) legal p.adds

  abbrev said : List Word
  said = Began pin.version ∷ replied pin.design ops

  again_writes : Writes new.opening new.events before text said
  again_writes more later =
      e ∙ append_assoc before (line (codes "begin" ∷ decimal pin.version ∷ [])) (reply_lines (run pin.design ops).replies)
      ∙ ap (λ (z : List ℕ). before ++ (line (codes "begin" ∷ decimal pin.version ∷ []) ++ z)) (sym (replies_said new.opening (new.events ++ more) (run pin.design ops).replies))

  pub again_owed : Owed old new caller r (Again retries ops) lines before text (at.InBlock (record { tx = record { pin = pin; ops = ops; replies = []; reads = []; written = [] }; retries = retries }))
  again_owed = record {
    moves = record {
      call = call.Pin;
      answer = answer.Pinned pin.number pin.version;
      adds = p.adds;
      wanted = refl;
      words = said;
      leads = λ more.
          subst (λ (d : Design). Leads (version_at new.opening (new.events ++ more)) (Again retries ops) lines (Told call.Pin (answer.Pinned pin.number pin.version) ∷ []) (Began pin.version ∷ replied d ops)
          (Between (InBlock pin.number pin.version retries ops)) lines) (version_is new pin more legal_now p.is_pin)
          (again_leads (version_at new.opening (new.events ++ more)) pin.number pin.version retries ops lines);
      writes = again_writes;
    };
    pin = record { is_pin = p.is_pin; caller_is = p.caller_is };
  }

-- a transaction with these operations on this pin
pub again_called : (old new : Story) (caller : ℕ) (r : Bool) (before mid text : List ℕ) (pin : PinFacts) (v : ℕ) (retries : ℕ) (ops : List Op) (lines : List Step) (block : Block) → Legal old.opening old.events
    → Pins old new caller call.Pin pin → v ≡ pin.version → mid ≡ before ++ line (codes "begin" ∷ decimal v ∷ []) → text ≡ mid ++ reply_lines (run pin.design ops).replies
    → block.retries ≡ retries → block.tx.ops ≡ ops → block.tx.pin ≡ pin → Owed old new caller r (Again retries ops) lines before text (at.InBlock block)
again_called old new caller r before mid text pin v retries ops lines block legal p is begun said left same on =
    let texts : text ≡ (before ++ line (codes "begin" ∷ decimal pin.version ∷ [])) ++ reply_lines (run pin.design ops).replies =
    said ∙ ap (λ (z : List ℕ). z ++ reply_lines (run pin.design ops).replies) (begun ∙ ap (λ (n : ℕ). before ++ line (codes "begin" ∷ decimal n ∷ [])) is) in
    let o = again_owed old new caller r before text pin retries ops lines legal p texts in
    let m = o.moves in
    record {
      moves = subst (λ (n : ℕ). Moves old new caller r (Again retries ops) lines before text (Between (InBlock block.tx.pin.number block.tx.pin.version n block.tx.ops)) lines) (sym left)
          (subst (λ (z : List Op). Moves old new caller r (Again retries ops) lines before text (Between (InBlock block.tx.pin.number block.tx.pin.version retries z)) lines) (sym same)
          (subst (λ (z : PinFacts). Moves old new caller r (Again retries ops) lines before text (Between (InBlock z.number z.version retries ops)) lines) (sym on) m));
      pin = subst (λ (z : PinFacts). IsPinBy new caller z) (sym on) o.pin;
    }
