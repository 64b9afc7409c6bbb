-- Lines that make no call.
use Rattle.std.proofs.Common.{◌≡◌, ◌∙◌, ℕ, zero, suc, ◌+◌, ◌<◌, List, [], ◌∷◌, ◌++◌, Option, length, drop, map, get_or, inl, inr, refl, ap, sym, subst, arith, append_assoc, append-nil}
use Rattle.std.specs.Prelude.{MatchOption, Some, None, codes}
use Rattle.std.proofs.Math.Seq.{drop-cons}
use Rattle.std.proofs.lemmas.List.{drop-map, length-map}
use Rattle.netlist_schema.specs.Design.{Design}
use Rattle.edit_spec.specs.declared.ops.Op.{Op}
use Rattle.edit_tx.specs.Facts.{HasRun, PinFacts, TxFacts}
use Rattle.db_spec.specs.History.{Legal, version_at}
use Rattle.db_core.specs.Story.{Story}
use Rattle.flat_lines_spec.specs.Lines.{flattening_text}
use Rattle.script_spec.specs.Headline.{HasWalk, IsWalk}
use Rattle.script_spec.specs.Report.{transcript}
use Rattle.script_spec.specs.Session.{InBlock, NoPin, OffPin, OnPin, Replied, Walked, reply_behind}
use Rattle.script_spec.specs.Texts.{line, reply_text}
use Rattle.script_spec.specs.declared.script.ScriptLine.{ScriptLine}
use Rattle.script_spec.specs.declared.script.Step.{Step}
use Rattle.script_spec.specs.declared.script.Step.TheVariants as step
use Rattle.script_run_spec.proofs.Along.{transcript-append}
use Rattle.script_run_spec.proofs.OneLine.{writes_none, writes_one}
use Rattle.history_check_spec.specs.Left.{AreLoud, Between, IsLoud, Leads, Phase, next_call}
use Rattle.history_check_spec.proofs.Leading.{leads_nowhere, leads_on, no_release_leads, no_walk_leads, run_leads, walk_leads}
use Rattle.history_turns.specs.Moves.{HasPassed, Passed, Passes, PassesTooMuch, QuietBy, SaysTooMuch}
use Rattle.history_turns.specs.Seats.{IsAt, IsPinBy, phase_of}
use Rattle.history_turns.specs.declared.quiet.Quiet.TheVariants as quiet
use Rattle.history_turns.specs.declared.seats.At.{At}
use Rattle.history_turns.specs.declared.seats.At.TheVariants as at
use Rattle.history_turns.proofs.Blocking.{version_is}

-- ---- one line

pub walk_passed : (pin : PinFacts) (limit : _) (before text : List ℕ) → text ≡ before ++ flattening_text pin.design limit → Passed (at.OnPin pin) (step.Walk limit) before text (at.OnPin pin)
walk_passed pin limit before text e = record {
  passes = λ story caller lines legal mine. record {
    words = Walked pin.version limit ∷ [];
    calls = λ r. refl;
    leads = λ more. walk_leads (version_at story.opening (story.events ++ more)) pin.number pin.version limit lines;
    writes = λ more later.
        e ∙ ap (λ (d : Design). before ++ flattening_text d limit) (sym (version_is story pin more legal mine.is_pin))
        ∙ ap (λ (z : List ℕ). before ++ z) (sym (append-nil (flattening_text (version_at story.opening (story.events ++ more) pin.version) limit)));
  };
  pin = λ story caller mine. mine;
  top = λ h. h;
}

-- a walk of more bytes than may be said
pub walk_too_much : (pin : PinFacts) (limit : _) (before : List ℕ) (most : ℕ) → most < length (before ++ flattening_text pin.design limit)
    → (story : Story) (caller : ℕ) (lines : List Step) → Legal story.opening story.events → IsAt story caller (at.OnPin pin) → SaysTooMuch story (phase_of (at.OnPin pin)) (step.Walk limit ∷ lines) before most
walk_too_much pin limit before most long story caller lines legal mine = record {
  words = Walked pin.version limit ∷ [];
  next = Between (OnPin pin.number pin.version);
  left = lines;
  leads = λ more. walk_leads (version_at story.opening (story.events ++ more)) pin.number pin.version limit lines;
  long = λ more later.
      subst (λ (z : List ℕ). most < length z)
      (ap (λ (d : Design). before ++ flattening_text d limit) (sym (version_is story pin more legal mine.is_pin))
      ∙ ap (λ (z : List ℕ). before ++ z) (sym (append-nil (flattening_text (version_at story.opening (story.events ++ more) pin.version) limit)))) long;
}

pub no_walk_passed : (limit : _) (before text : List ℕ) → text ≡ before ++ line (codes "no-pin" ∷ []) → Passed at.OffPin (step.Walk limit) before text at.OffPin
no_walk_passed limit before text e = record {
  passes = λ story caller lines legal mine. record {
    words = NoPin ∷ [];
    calls = λ r. refl;
    leads = λ more. no_walk_leads (version_at story.opening (story.events ++ more)) limit lines;
    writes = writes_one story.opening story.events before text _ NoPin (λ more. refl) e;
  };
  pin = λ story caller mine. tt;
  top = λ h. tt;
}

pub no_release_passed : (before text : List ℕ) → text ≡ before ++ line (codes "no-pin" ∷ []) → Passed at.OffPin step.Release before text at.Free
no_release_passed before text e = record {
  passes = λ story caller lines legal mine. record {
    words = NoPin ∷ [];
    calls = λ r. refl;
    leads = λ more. no_release_leads (version_at story.opening (story.events ++ more)) lines;
    writes = writes_one story.opening story.events before text _ NoPin (λ more. refl) e;
  };
  pin = λ story caller mine. tt;
  top = λ h. tt;
}

-- an operation was run in a transaction
pub run_passed : (old new : TxFacts) (retries : ℕ) (op : Op) (before text : List ℕ) → HasRun old new op → text ≡ before ++ line (reply_text (reply_behind old.pin.design old.ops op) ∷ [])
    → Passed (at.InBlock (record { tx = old; retries = retries })) (step.Run op) before text (at.InBlock (record { tx = new; retries = retries }))
run_passed old new retries op before text ran e = record {
  passes = λ story caller lines legal mine.
      let reply = reply_behind old.pin.design old.ops op in
      let pin = old.pin in
      record {
        words = Replied reply ∷ [];
        calls = λ r. ap (λ (z : List Op). next_call r (Between (InBlock pin.number pin.version retries z)) lines) (sym ran.ops)
            ∙ ap (λ (z : PinFacts). next_call r (Between (InBlock z.number z.version retries new.ops)) lines) (sym ran.pin);
        leads = λ more.
            let versions = version_at story.opening (story.events ++ more) in
            let here = run_leads versions pin.number pin.version retries old.ops op lines in
            let said = subst (λ (d : Design). Leads versions (Between (InBlock pin.number pin.version retries old.ops)) (step.Run op ∷ lines) [] (Replied (reply_behind d old.ops op) ∷ [])
            (Between (InBlock pin.number pin.version retries (old.ops ++ op ∷ []))) lines) (version_is story pin more legal mine.is_pin) here in
            let ops = subst (λ (z : List Op). Leads versions (Between (InBlock pin.number pin.version retries old.ops)) (step.Run op ∷ lines) [] (Replied reply ∷ [])
            (Between (InBlock pin.number pin.version retries z)) lines) (sym ran.ops) said in
            subst (λ (z : PinFacts). Leads versions (Between (InBlock pin.number pin.version retries old.ops)) (step.Run op ∷ lines) [] (Replied reply ∷ [])
            (Between (InBlock z.number z.version retries new.ops)) lines) (sym ran.pin) ops;
        writes = writes_one story.opening story.events before text _ (Replied reply) (λ more. refl) e;
      };
  pin = λ story caller mine. subst (λ (z : PinFacts). IsPinBy story caller z) (sym ran.pin) mine;
  top = λ h. tt;
}

-- ---- lines that call

pub pin_loud : (number v : ℕ) (s : Step) → ((limit : Option ℕ) → s ≡ step.Walk limit → ⊥) → IsLoud (Between (OnPin number v)) s
pin_loud number v (step.Walk limit) none = none limit refl
pin_loud number v s none = tt

pub off_loud : (s : Step) → ((limit : Option ℕ) → s ≡ step.Walk limit → ⊥) → (s ≡ step.Release → ⊥) → IsLoud (Between OffPin) s
off_loud (step.Walk limit) none other = none limit refl
off_loud step.Release none other = other refl
off_loud s none other = tt

pub block_loud : (number v retries : ℕ) (ops : List Op) (s : Step) → ((op : Op) → s ≡ step.Run op → ⊥) → IsLoud (Between (InBlock number v retries ops)) s
block_loud number v retries ops (step.Run op) none = none op refl
block_loud number v retries ops s none = tt

-- ---- some lines

pub passes_nothing : (story : Story) (phase : Phase) (lines : List Step) (text : List ℕ) → Passes story phase lines text text phase lines
passes_nothing story phase lines text = record {
  words = [];
  calls = λ r. refl;
  leads = λ more. leads_nowhere (version_at story.opening (story.events ++ more)) phase lines;
  writes = writes_none story.opening story.events text;
}

pub passes_on : (story : Story) (phase mid next : Phase) (lines between left : List Step) (before during text : List ℕ)
    → Passes story phase lines before during mid between → Passes story mid between during text next left → Passes story phase lines before text next left
passes_on story phase mid next lines between left before during text a b = record {
  words = a.words ++ b.words;
  calls = λ r. a.calls r ∙ b.calls r;
  leads = λ more. leads_on (version_at story.opening (story.events ++ more)) phase mid next lines between left [] [] a.words b.words (a.leads more) (b.leads more);
  writes = λ more later.
      let whole = transcript story.opening (story.events ++ more) in
      b.writes more later ∙ ap (λ (z : List ℕ). z ++ whole b.words) (a.writes more later) ∙ append_assoc before (whole a.words) (whole b.words)
      ∙ ap (λ (z : List ℕ). before ++ z) (sym (transcript-append story.opening (story.events ++ more) a.words b.words));
}

-- behind lines that were passed over
much_on : (story : Story) (phase mid : Phase) (lines between : List Step) (before during : List ℕ) (most : ℕ) → Passes story phase lines before during mid between → SaysTooMuch story mid between during most
    → SaysTooMuch story phase lines before most
much_on story phase mid lines between before during most a b = record {
  words = a.words ++ b.words;
  next = b.next;
  left = b.left;
  leads = λ more. leads_on (version_at story.opening (story.events ++ more)) phase mid b.next lines between b.left [] [] a.words b.words (a.leads more) (b.leads more);
  long = λ more later.
      let whole = transcript story.opening (story.events ++ more) in
      subst (λ (z : List ℕ). most < length z)
      (ap (λ (z : List ℕ). z ++ whole b.words) (a.writes more later) ∙ append_assoc before (whole a.words) (whole b.words)
      ∙ ap (λ (z : List ℕ). before ++ z) (sym (transcript-append story.opening (story.events ++ more) a.words b.words))) (b.long more later);
}

-- more was said by lines that were passed over
pub passed_much : (story : Story) (phase next : Phase) (lines left : List Step) (before text : List ℕ) (most : ℕ) → Passes story phase lines before text next left → most < length text
    → SaysTooMuch story phase lines before most
passed_much story phase next lines left before text most p long = record {
  words = p.words;
  next = next;
  left = left;
  leads = p.leads;
  long = λ more later. subst (λ (z : List ℕ). most < length z) (p.writes more later) long;
}

-- the steps of lines
abbrev pub steps : List ScriptLine → List Step
steps lines = map (λ (l : ScriptLine). l.step) lines

-- the line at a place, and those behind it
pub line_at : (lines : List ScriptLine) (k : ℕ) (r : ScriptLine) → k < length lines → drop k (steps lines) ≡ (get_or lines k r).step ∷ drop (k + 1) (steps lines)
line_at lines k r less =
    let f : ScriptLine → Step = λ l. l.step in
    let one : suc k ≡ k + 1 = omega arith in
    drop-map f k lines ∙ ap (map f) (drop-cons lines k r less) ∙ ap (λ (z : List Step). (get_or lines k r).step ∷ z) (sym (drop-map f (suc k) lines))
    ∙ ap (λ (n : ℕ). (get_or lines k r).step ∷ drop n (map f lines)) one

-- a line that walks
pub walk_at : (lines : List ScriptLine) (k : ℕ) (r : ScriptLine) → k < length lines → IsWalk (get_or lines k r).step → HasWalk (steps lines)
walk_at [] k r less walks = absurd (omega (arith, less))
walk_at (line ∷ lines) zero r less walks = inl walks
walk_at (line ∷ lines) (suc k) r less walks = inr (walk_at lines k r (omega (arith, less)) walks)

-- a line more was passed over
pub passed_more : (story : Story) (caller : ℕ) (a now next : At) (lines : List ScriptLine) (first k : ℕ) (r : ScriptLine) (before mid text : List ℕ) → k < length lines
    → Legal story.opening story.events → IsAt story caller now
    → Passes story (phase_of a) (drop first (steps lines)) before mid (phase_of now) (drop k (steps lines)) → Passed now (get_or lines k r).step mid text next
    → Passes story (phase_of a) (drop first (steps lines)) before text (phase_of next) (drop (k + 1) (steps lines))
passed_more story caller a now next lines first k r before mid text less legal mine p one =
    let s = (get_or lines k r).step in
    let here = subst (λ (z : List Step). Passes story (phase_of now) z mid text (phase_of next) (drop (k + 1) (steps lines))) (sym (line_at lines k r less)) (one.passes story caller (drop (k + 1) (steps lines)) legal mine) in
    passes_on story (phase_of a) (phase_of now) (phase_of next) (drop first (steps lines)) (drop k (steps lines)) (drop (k + 1) (steps lines)) before mid text p here

-- where the next line calls
pub calls_at : (a now same : At) (lines : List ScriptLine) (first k : ℕ) (r : ScriptLine) (before mid text : List ℕ) (most : ℕ) → k < length lines
    → ((story : Story) (caller : ℕ) → Legal story.opening story.events → IsAt story caller a → Passes story (phase_of a) (drop first (steps lines)) before mid (phase_of now) (drop k (steps lines)))
    → ((story : Story) (caller : ℕ) → IsAt story caller a → IsAt story caller now) → QuietBy now (get_or lines k r).step mid most text (quiet.Calls same) → HasPassed a (steps lines) first before text same k
calls_at a now same lines first k r before mid text most less passes pin q =
    let whole : HasPassed a (steps lines) first before mid now k = record {
      passes = passes;
      pin = pin;
      within = let long = length-map lines (λ (l : ScriptLine). l.step) in omega (arith, less, long);
      loud = subst (λ (z : List Step). AreLoud (phase_of now) z) (sym (line_at lines k r less)) q.1;
    } in
    subst (λ (b : At). HasPassed a (steps lines) first before text b k) (sym q.0) (subst (λ (z : List ℕ). HasPassed a (steps lines) first before z now k) (sym q.2) whole)

-- where the next line says too much
pub too_much_at : (a now : At) (lines : List ScriptLine) (first k : ℕ) (r : ScriptLine) (before mid text : List ℕ) (most : ℕ) → k < length lines
    → ((story : Story) (caller : ℕ) → Legal story.opening story.events → IsAt story caller a → Passes story (phase_of a) (drop first (steps lines)) before mid (phase_of now) (drop k (steps lines)))
    → ((story : Story) (caller : ℕ) → IsAt story caller a → IsAt story caller now) → QuietBy now (get_or lines k r).step mid most text quiet.TooMuch → PassesTooMuch a (steps lines) first before most
too_much_at a now lines first k r before mid text most less passes pin q story caller legal mine =
    much_on story (phase_of a) (phase_of now) (drop first (steps lines)) (drop k (steps lines)) before mid most (passes story caller legal mine)
    (subst (λ (z : List Step). SaysTooMuch story (phase_of now) z mid most) (sym (line_at lines k r less)) (q story caller (drop (k + 1) (steps lines)) legal (pin story caller mine)))

-- nothing came, so too much was said
pub too_much_there : {X : Type 0} {much : Type 0} (passed : X → Type 0) (o : Option X) → ((x : X) → o ≡ Some x → ⊥) → MatchOption o much passed → much
too_much_there passed None none m = m
too_much_there passed (Some x) none m = absurd (none x refl)

-- at the end of the lines
pub ends_at : (a now : At) (lines : List ScriptLine) (first k : ℕ) (before text : List ℕ) → k ≡ length lines
    → ((story : Story) (caller : ℕ) → Legal story.opening story.events → IsAt story caller a → Passes story (phase_of a) (drop first (steps lines)) before text (phase_of now) (drop k (steps lines)))
    → ((story : Story) (caller : ℕ) → IsAt story caller a → IsAt story caller now) → HasPassed a (steps lines) first before text now (length lines)
ends_at a now lines first k before text is passes pin =
    let long = length-map lines (λ (l : ScriptLine). l.step) in
    let none : drop (length lines) (steps lines) ≡ [] = ap (λ (n : ℕ). drop n (steps lines)) (sym long) ∙ drop-all (steps lines) in
    record {
      passes = λ story caller legal mine. subst (λ (n : ℕ). Passes story (phase_of a) (drop first (steps lines)) before text (phase_of now) (drop n (steps lines))) is (passes story caller legal mine);
      pin = pin;
      within = omega (arith, long);
      loud = subst (λ (z : List Step). AreLoud (phase_of now) z) (sym none) tt;
    }
  where
    drop-all : (xs : List Step) → drop (length xs) xs ≡ []
    drop-all [] = refl
    drop-all (x ∷ xs) = drop-all xs
