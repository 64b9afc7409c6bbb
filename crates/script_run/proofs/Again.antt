-- A block that is run again.
use Rattle.std.proofs.Common.{◌≡◌, ◌∙◌, ℕ, suc, ◌+◌, ◌<◌, List, [], ◌∷◌, ◌++◌, length, take, get_or, map, Result, Ok, Err, Some, None, inl, inr, refl, ap, sym, subst, append_assoc, append-nil, arith}
use Rattle.std.proofs.lemmas.Grind.{flat_map-append, take_at_read}
use Rattle.std.specs.Prelude.{OnOk}
use Rattle.netlist_schema.specs.Design.{Design}
use Rattle.edit_rules_spec.specs.declared.reply.Reply.{Reply}
use Rattle.edit_spec.specs.Step.{run, step as stepped}
use Rattle.edit_spec.specs.declared.ops.Op.{Op}
use Rattle.edit_spec.proofs.Overlaid.{replies_push}
use Rattle.edit_tx.specs.Facts.{PinFacts}
use Rattle.db_spec.specs.History.{version_at}
use Rattle.db_spec.specs.declared.event.Answer.TheVariants as answer
use Rattle.db_spec.specs.declared.event.Call.TheVariants as call
use Rattle.db_spec.specs.declared.event.Event.{Event}
use Rattle.script_spec.specs.Report.{transcript}
use Rattle.script_spec.specs.Session.{Began, Conflict, LogFull, Replied, Word, Exchange, Goes, Held as SessionHeld, Nothing, OnPin, InBlock, On, Stop as Stopped, Told, last_release, release, replied, reply_behind}
use Rattle.script_spec.specs.Texts.{line, reply_text}
use Rattle.script_spec.specs.declared.script.Step.TheVariants as step
use Rattle.script_run_spec.specs.Calls.{HoldsJust, Makes, Writes}
use Rattle.script_run_spec.specs.Lines.{Begins, GoesOn, IsBroken, IsFilled}
use Rattle.script_run_spec.proofs.Blocks.{again_broken, again_filled, again_goes, gives_up_goes, writes_both}
use Rattle.script_run_spec.proofs.Endings.{both_makes}
use Rattle.script_run_spec.proofs.OneLine.{makes_nothing}
use Rattle.script_run_spec.proofs.Pins.{held_is_live, live_is_there}
use Rattle.script_run_spec.proofs.Places.{commit_full}
use Rattle.db_share.specs.Passes.{Shared, Pass, HasPin, IsReady}
use Rattle.db_share.specs.Calls.{GoesOn as PassGoesOn}
use Rattle.db_share.proofs.Opened.{goes_on_twice}
use Rattle.script_held.specs.Holding.{block_of, held_of}
use Rattle.script_held.specs.declared.held.Block.{Block}
use Rattle.script_held.specs.declared.held.Held.{Held}
use Rattle.script_held.specs.declared.held.Held.TheVariants as held
use Rattle.script_held.specs.declared.held.Stop.{Stop}
use Rattle.script_held.specs.declared.held.Stop.TheVariants.{LogFull as StopLogFull, NoMemory}
use Rattle.script_held.proofs.Calls.{stays}
use Rattle.script_run.specs.Coming.{Again, Begun, Comes, Refused, Starts, Stops, Tries, reply_lines}
use Rattle.script_run.specs.Holding.{Stands}
use Rattle.script_run.proofs.Calls.{makes_later, stands_then}

-- what holds at any rate
pub any_ok : {A E : Type 0} (r : Result A E) (P : Type 0) → P → OnOk r P
any_ok (Ok a) P p = p
any_ok (Err e) P p = tt

-- ---- replies

-- the reply that was said is that of the operation behind those before
pub said_reply : (d : Design) (ops : List Op) (op copy : Op) (reply : Reply) (old new : List ℕ) → reply ≡ (stepped (run d ops).design copy).reply → copy ≡ op
    → new ≡ old ++ line (reply_text reply ∷ []) → new ≡ old ++ line (reply_text (reply_behind d ops op) ∷ [])
said_reply d ops op copy reply old new is same e =
    e ∙ ap (λ (r : Reply). old ++ line (reply_text r ∷ [])) (is ∙ ap (λ (o : Op). (stepped (run d ops).design o).reply) same)

-- what the words for replies say
replies_said : (d : Design) (history : List Event) (replies : List Reply) → transcript d history (map Replied replies) ≡ reply_lines replies
replies_said d history [] = refl
replies_said d history (reply ∷ replies) = ap (λ (text : List ℕ). line (reply_text reply ∷ []) ++ text) (replies_said d history replies)

-- one reply more
pub one_reply_more : (d : Design) (before text more : List ℕ) (ops : List Op) (op : Op) → text ≡ before ++ reply_lines (run d ops).replies → more ≡ text ++ line (reply_text (reply_behind d ops op) ∷ [])
    → more ≡ before ++ reply_lines (run d (ops ++ op ∷ [])).replies
one_reply_more d before text more ops op so_far said =
    let last : List Reply = reply_behind d ops op ∷ [] in
    said ∙ ap (λ (xs : List ℕ). xs ++ line (reply_text (reply_behind d ops op) ∷ [])) so_far
    ∙ append_assoc before (reply_lines (run d ops).replies) (line (reply_text (reply_behind d ops op) ∷ []))
    ∙ ap (λ (xs : List ℕ). before ++ (reply_lines (run d ops).replies ++ xs)) (sym (append-nil (line (reply_text (reply_behind d ops op) ∷ []))))
    ∙ ap (λ (xs : List ℕ). before ++ xs) (sym (flat_map-append (λ (r : Reply). line (reply_text r ∷ [])) (run d ops).replies last))
    ∙ ap (λ (rs : List Reply). before ++ reply_lines rs) (sym (replies_push ops d op))

-- one operation more was run
next_ops : (all : List Op) (done : ℕ) (op : Op) → done < length all → op ≡ get_or all done op → take (done + 1) all ≡ take done all ++ op ∷ []
next_ops all done op low is = (take_at_read all done op low).1 ∙ ap (λ (o : Op). take done all ++ o ∷ []) (sym is)

pub one_op_more : (all ran more : List Op) (done : ℕ) (op : Op) → done < length all → op ≡ get_or all done op → ran ≡ take done all → more ≡ ran ++ op ∷ [] → more ≡ take (done + 1) all
one_op_more all ran more done op low is so_far at = at ∙ ap (λ (ops : List Op). ops ++ op ∷ []) so_far ∙ sym (next_ops all done op low is)

pub one_op_said : (d e : Design) (before text more : List ℕ) (all ran : List Op) (done : ℕ) (op : Op) → done < length all → op ≡ get_or all done op → e ≡ d → ran ≡ take done all
    → text ≡ before ++ reply_lines (run d (take done all)).replies → more ≡ text ++ line (reply_text (reply_behind e ran op) ∷ []) → more ≡ before ++ reply_lines (run d (take (done + 1) all)).replies
one_op_said d e before text more all ran done op low is same so_far said now =
    one_reply_more d before text more (take done all) op said
    (now ∙ ap (λ (x : Design). text ++ line (reply_text (reply_behind x ran op) ∷ [])) same ∙ ap (λ (ops : List Op). text ++ line (reply_text (reply_behind d ops op) ∷ [])) so_far)
    ∙ ap (λ (ops : List Op). before ++ reply_lines (run d ops).replies) (sym (next_ops all done op low is))

-- ---- a line that begins a transaction, from what it came to

module _ (d : Design) (caller : ℕ) (old new : List Event) (before text : List ℕ) (retries number v left : ℕ) (ops : List Op) where
  -- its calls and its words
  begin_does : (done : List Exchange) (words : List Word) (versions : ℕ → Design) → Goes versions Nothing (step.Begin retries) done words (On (InBlock number v left ops))
      → (done ≡ Told call.Pin (answer.Pinned number v) ∷ []) × (words ≡ Began v ∷ [])
  begin_does done words versions (inl x) = let never = x.2 in absurd (cc (never))
  begin_does done words versions (inr (pin, u, (a, b, c))) =
      let same_pin : pin ≡ number = cc (c) in
      let same_version : u ≡ v = cc (c) in
      (a ∙ (λ k. Told call.Pin (answer.Pinned (same_pin k) (same_version k)) ∷ []), b ∙ (λ k. Began (same_version k) ∷ []))

  pub begin_made : GoesOn d caller old new before text Nothing (step.Begin retries) (InBlock number v left ops)
      → Makes d caller old new (Told call.Pin (answer.Pinned number v) ∷ []) × Writes d new before text (Began v ∷ [])
  begin_made g =
      let does = begin_does g.done g.words (version_at d (new ++ [])) (g.goes []) in
      (subst (λ (done : List Exchange). Makes d caller old new done) does.0 g.makes, subst (λ (words : List Word). Writes d new before text words) does.1 g.writes)

  -- it began, and no more came of it
  pub begin_broken : (held : SessionHeld) → HoldsJust d new caller held → GoesOn d caller old new before text Nothing (step.Begin retries) (InBlock number v left ops)
      → IsBroken d caller old new Nothing (step.Begin retries) held
  begin_broken held holds g = record {
    done = g.done;
    makes = g.makes;
    begins = λ more. ([], g.words, On (InBlock number v left ops), subst (λ (done : List Exchange). Goes (version_at d (new ++ more)) Nothing (step.Begin retries) done g.words (On (InBlock number v left ops))) (sym (append-nil g.done)) (g.goes more));
    holds = holds;
  }

-- ---- operations that were run again on a new pin

module _ (db : Shared) (old new : Pass) (before mid text : List ℕ) (ops : List Op) (retries : ℕ) (block next : Block) (ready : IsReady db old) (on : PassGoesOn db old new) where
  held_still : next.tx.pin ≡ block.tx.pin → HoldsJust db.base new.seen old.number (block_of block) → HoldsJust db.base new.seen old.number (block_of next)
  held_still same holds = subst (λ (p : PinFacts). HoldsJust db.base new.seen old.number (OnPin p.number p.version)) (sym same) holds

  pub ran_again : Starts db old new before mid retries (Ok block) → next.tx.pin ≡ block.tx.pin → next.retries ≡ block.retries → next.tx.ops ≡ ops
      → text ≡ mid ++ reply_lines (run block.tx.pin.design ops).replies → Begun db old new before text ops retries next
  ran_again starts same_pin same_retries ran e =
      let d : Design = db.base in
      let g = starts.0.0 in
      let has : HasPin db new block.tx.pin = starts.0.1 in
      let v : ℕ = block.tx.pin.version in
      let made = begin_made d old.number old.seen new.seen before mid retries block.tx.pin.number v block.retries block.tx.ops g in
      let design : block.tx.pin.design ≡ version_at d new.seen v = has.is_pin.design in
      let le = live_is_there d new.seen old.number block.tx.pin.number v on.ready.history.legal (held_is_live d new.seen old.number block.tx.pin.number v g.holds) in
      let replies : Writes d new.seen mid text (replied (version_at d new.seen v) ops) =
      λ more legal. e ∙ ap (λ (x : Design). mid ++ reply_lines (run x ops).replies) design
      ∙ ap (λ (xs : List ℕ). mid ++ xs) (sym (replies_said d (new.seen ++ more) (run (version_at d new.seen v) ops).replies)) in
      let both = writes_both d old.number new.seen new.seen [] (makes_nothing d old.number new.seen on.ready.history.legal) before mid text (Began v ∷ []) (replied (version_at d new.seen v) ops) made.1 replies in
      record {
        left = same_retries ∙ starts.1;
        same = ran;
        makes = subst (λ (p : PinFacts). Makes d old.number old.seen new.seen (Told call.Pin (answer.Pinned p.number p.version) ∷ [])) (sym same_pin) made.0;
        writes = subst (λ (p : PinFacts). Writes d new.seen before text (Began p.version ∷ replied (version_at d new.seen p.version) ops)) (sym same_pin) both;
        stands = stands_then db old new (held.InBlock next) on (held_still same_pin g.holds) (subst (λ (p : PinFacts). HasPin db new p) (sym same_pin) has);
      }

  pub ran_short : Starts db old new before mid retries (Ok block) → next.tx.pin ≡ block.tx.pin → Stops db old new before text Nothing (step.Begin retries) (NoMemory (held.InBlock next))
  ran_short starts same_pin =
      let g = starts.0.0 in (
        begin_broken db.base old.number old.seen new.seen before mid retries block.tx.pin.number block.tx.pin.version block.retries block.tx.ops (block_of next) (held_still same_pin g.holds) g,
        subst (λ (p : PinFacts). HasPin db new p) (sym same_pin) starts.0.1,
      )

-- ---- a block whose commit was refused

module _ (db : Shared) (old mid new : Pass) (before between text : List ℕ) (block : Block) (ops : List Op) (stands : Stands db old (held.InBlock block)) where
  -- no retries are left
  pub gives_up : Refused db old mid before between block ops → block.retries ≡ 0 → Tries db old mid before between block (Ok None)
  gives_up r none =
      subst (λ (n : ℕ). GoesOn db.base old.number old.seen mid.seen before between (InBlock block.tx.pin.number block.tx.pin.version n block.tx.ops) step.Commit Nothing) (sym none)
      (gives_up_goes db.base old.number old.seen mid.seen before between block.tx.pin.number block.tx.pin.version block.tx.ops r.object r.later stands.holds r.makes r.writes)

  module _ (same : mid.number ≡ old.number) (r : Refused db old mid before between block ops) (retries : ℕ) (left : block.retries ≡ suc retries) where
    -- the words of both parts
    both_said : (done : List Exchange) (words : List Word) → Makes db.base old.number mid.seen new.seen done → Writes db.base new.seen between text words
        → Writes db.base new.seen before text (Conflict r.object r.later ∷ words)
    both_said done words m writes = writes_both db.base old.number mid.seen new.seen done m before between text (Conflict r.object r.later ∷ []) words r.writes writes

    -- it was begun again
    pub again : (next : Block) → PassGoesOn db mid new → Begun db mid new between text ops retries next → Tries db old new before text block (Ok (Some next))
    again next on b =
        let d : Design = db.base in
        let m = makes_later db old mid new (Told call.Pin (answer.Pinned next.tx.pin.number next.tx.pin.version) ∷ []) same b.makes in
        let u : ℕ = next.tx.pin.version in
        record {
          retries = let one : suc retries ≡ retries + 1 = omega arith in left ∙ one ∙ ap (λ (n : ℕ). n + 1) (sym b.left);
          ops = b.same ∙ r.same;
          runs = record {
            object = r.object;
            later = r.later;
            makes = both_makes d old.number old.seen mid.seen new.seen (Told (call.Commit block.tx.pin.number block.tx.ops) (answer.Conflict r.object r.later) ∷ release block.tx.pin.number ∷ [])
                (Told call.Pin (answer.Pinned next.tx.pin.number u) ∷ []) r.makes m;
            there = live_is_there d new.seen new.number next.tx.pin.number u on.ready.history.legal (held_is_live d new.seen new.number next.tx.pin.number u b.stands.holds);
            writes = subst (λ (xs : List Op). Writes d new.seen before text (Conflict r.object r.later ∷ Began u ∷ replied (version_at d new.seen u) xs)) r.same
                (both_said (Told call.Pin (answer.Pinned next.tx.pin.number u) ∷ []) (Began u ∷ replied (version_at d new.seen u) ops) m b.writes);
          };
          stands = b.stands;
        }

    -- it could not be begun again

    abbrev retried : SessionHeld
    retried = InBlock block.tx.pin.number block.tx.pin.version (suc retries) block.tx.ops

    -- the commit and the release
    abbrev calls : List Exchange
    calls = Told (call.Commit block.tx.pin.number block.tx.ops) (answer.Conflict r.object r.later) ∷ release block.tx.pin.number ∷ []

    full_goes : (versions : ℕ → Design) (rest : List Exchange) (words : List Word) (places : ℕ) → Goes versions Nothing (step.Begin retries) rest words (Stopped places)
        → Goes versions retried step.Commit (calls ++ rest) (Conflict r.object r.later ∷ words) (Stopped places)
    full_goes versions rest words places (inl x) = inr (inr (r.object, r.later, rest, words, refl, refl, inl x))
    full_goes versions rest words places (inr (pin, u, (a, b, c))) = absurd (cc (c))

    begun_filled : (next : SessionHeld) → IsFilled db.base old.number mid.seen new.seen between text Nothing (step.Begin retries) next → IsFilled db.base old.number old.seen new.seen before text retried step.Commit next
    begun_filled next f = record {
      done = calls ++ f.done;
      words = Conflict r.object r.later ∷ f.words;
      places = f.places;
      makes = both_makes db.base old.number old.seen mid.seen new.seen calls f.done r.makes f.makes;
      goes = λ more. full_goes (version_at db.base (new.seen ++ more)) (f.done ++ last_release next) f.words f.places (f.goes more);
      writes = both_said f.done f.words f.makes f.writes;
      holds = f.holds;
      no_places = f.no_places;
    }

    broken_begins : (versions : ℕ → Design) (done : List Exchange) → Begins versions Nothing (step.Begin retries) done → Begins versions retried step.Commit (calls ++ done)
    broken_begins versions done (rest, words, outcome, inl x) =
        (rest, Conflict r.object r.later ∷ words, outcome, inr (inr (r.object, r.later, done ++ rest, words, refl, refl, inl x)))
    broken_begins versions done (rest, words, outcome, inr (pin, u, (a, b, c))) =
        let replies : List Word = replied (versions u) block.tx.ops ++ LogFull ∷ [] in
        let calls_are : done ++ (rest ++ release pin ∷ []) ≡ Told call.Pin (answer.Pinned pin u) ∷ release pin ∷ [] =
        sym (append_assoc done rest (release pin ∷ [])) ∙ ap (λ (xs : List Exchange). xs ++ release pin ∷ []) a in (
          rest ++ release pin ∷ [],
          Conflict r.object r.later ∷ Began u ∷ replies,
          Stopped 1,
          inr (inr (
            r.object,
            r.later,
            done ++ (rest ++ release pin ∷ []),
            Began u ∷ replies,
            refl,
            refl,
            inr (pin, u, release pin ∷ [], LogFull ∷ [], calls_are, refl, commit_full versions block.tx.ops retries pin),
          )),
        )

    begun_broken : (next : SessionHeld) → IsBroken db.base old.number mid.seen new.seen Nothing (step.Begin retries) next → IsBroken db.base old.number old.seen new.seen retried step.Commit next
    begun_broken next k = record {
      done = calls ++ k.done;
      makes = both_makes db.base old.number old.seen mid.seen new.seen calls k.done r.makes k.makes;
      begins = λ more. broken_begins (version_at db.base (new.seen ++ more)) k.done (k.begins more);
      holds = k.holds;
    }

    pub again_stops : (stop : Stop) → Stops db mid new between text Nothing (step.Begin retries) stop → Tries db old new before text block (Err stop)
    again_stops (StopLogFull h) f = (
      subst (λ (n : ℕ). IsFilled db.base old.number old.seen new.seen before text (InBlock block.tx.pin.number block.tx.pin.version n block.tx.ops) step.Commit (held_of h)) (sym left)
          (begun_filled (held_of h) (subst (λ (n : ℕ). IsFilled db.base n mid.seen new.seen between text Nothing (step.Begin retries) (held_of h)) same f.0)),
      f.1,
    )
    again_stops (NoMemory h) k = (
      subst (λ (n : ℕ). IsBroken db.base old.number old.seen new.seen (InBlock block.tx.pin.number block.tx.pin.version n block.tx.ops) step.Commit (held_of h)) (sym left)
          (begun_broken (held_of h) (subst (λ (n : ℕ). IsBroken db.base n mid.seen new.seen Nothing (step.Begin retries) (held_of h)) same k.0)),
      k.1,
    )

-- ---- a block that is committed again

module _ (db : Shared) (old mid new : Pass) (before between text : List ℕ) (block next : Block) (a : Again db old mid before between block next) (same : mid.number ≡ old.number) where
  abbrev now : SessionHeld
  now = InBlock next.tx.pin.number next.tx.pin.version next.retries block.tx.ops

  one_less : suc next.retries ≡ block.retries
  one_less = let one : suc next.retries ≡ next.retries + 1 = omega arith in one ∙ sym a.retries

  of_block : (P : SessionHeld → Type 0) → P (InBlock block.tx.pin.number block.tx.pin.version (suc next.retries) block.tx.ops) → P (block_of block)
  of_block P p = subst (λ (n : ℕ). P (InBlock block.tx.pin.number block.tx.pin.version n block.tx.ops)) one_less p

  of_next : (P : ℕ → SessionHeld → Type 0) → P mid.number (block_of next) → P old.number now
  of_next P p = subst (λ (n : ℕ). P n now) same (subst (λ (ops : List Op). P mid.number (InBlock next.tx.pin.number next.tx.pin.version next.retries ops)) a.ops p)

  pub again_comes : (r : Result Held Stop) → Comes db mid new between text (block_of next) step.Commit r → Comes db old new before text (block_of block) step.Commit r
  again_comes (Ok h) g = (
    of_block (λ (b : SessionHeld). GoesOn db.base old.number old.seen new.seen before text b step.Commit (held_of h))
        (again_goes db.base old.number old.seen mid.seen new.seen before between text block.tx.pin.number block.tx.pin.version next.retries block.tx.ops next.tx.pin.number next.tx.pin.version (held_of h) a.runs
        (of_next (λ (n : ℕ) (b : SessionHeld). GoesOn db.base n mid.seen new.seen between text b step.Commit (held_of h)) g.0)),
    g.1,
  )
  again_comes (Err (StopLogFull h)) f = (
    of_block (λ (b : SessionHeld). IsFilled db.base old.number old.seen new.seen before text b step.Commit (held_of h))
        (again_filled db.base old.number old.seen mid.seen new.seen before between text block.tx.pin.number block.tx.pin.version next.retries block.tx.ops next.tx.pin.number next.tx.pin.version (held_of h) a.runs
        (of_next (λ (n : ℕ) (b : SessionHeld). IsFilled db.base n mid.seen new.seen between text b step.Commit (held_of h)) f.0)),
    f.1,
  )
  again_comes (Err (NoMemory h)) k = (
    of_block (λ (b : SessionHeld). IsBroken db.base old.number old.seen new.seen b step.Commit (held_of h))
        (again_broken db.base old.number old.seen mid.seen new.seen before between text block.tx.pin.number block.tx.pin.version next.retries block.tx.ops next.tx.pin.number next.tx.pin.version (held_of h) a.runs
        (of_next (λ (n : ℕ) (b : SessionHeld). IsBroken db.base n mid.seen new.seen b step.Commit (held_of h)) k.0)),
    k.1,
  )

-- ---- a block that is committed until it is accepted or no retries are left

-- the first block has come so far, and what comes of this one comes of the first
pub record IsUnderWay (db : Shared) (first pass : Pass) (before text : List ℕ) (block next : Block) : Type 0 where
  pub stands : Stands db pass (held.InBlock next)
  pub on : PassGoesOn db first pass
  pub rest : (new : Pass) (more : List ℕ) (result : Result Held Stop) → Comes db pass new text more (block_of next) step.Commit result → Comes db first new before more (block_of block) step.Commit result

pub under_way : (db : Shared) (pass : Pass) (text : List ℕ) (block : Block) → Stands db pass (held.InBlock block) → IsUnderWay db pass pass text text block block
under_way db pass text block stands = record { stands = stands; on = stays db pass stands.ready; rest = λ new more result comes. comes }

pub further : (db : Shared) (first pass new : Pass) (before text more : List ℕ) (block now next : Block) → IsUnderWay db first pass before text block now → PassGoesOn db pass new → Again db pass new text more now next
    → IsUnderWay db first new before more block next
further db first pass new before text more block now next way on again = record {
  stands = again.stands;
  on = goes_on_twice db first pass new way.on on;
  rest = λ last end result comes. way.rest last end result (again_comes db pass new last text more end now next again on.number result comes);
}

pub one_retry_less : (db : Shared) (old new : Pass) (before text : List ℕ) (block next : Block) → Again db old new before text block next → next.retries < block.retries
one_retry_less db old new before text block next again = let less = again.retries in omega arith
