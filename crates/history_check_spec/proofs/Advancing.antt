-- What the next exchange of a session tells: which call it is, and where it leads.
use Rattle.std.proofs.Common.{◌≡◌, ◌∙◌, ℕ, zero, suc, List, [], ◌∷◌, ◌++◌, inl, inr, refl, ap, sym, subst}
use Rattle.std.specs.Prelude.{Bool, Some}
use Rattle.netlist_schema.specs.Design.{Design}
use Rattle.netlist_schema.specs.Types.{Object}
use Rattle.edit_spec.specs.declared.ops.Op.{Op}
use Rattle.db_spec.specs.declared.event.Answer.TheVariants as answer
use Rattle.db_spec.specs.declared.event.Call.{Call}
use Rattle.db_spec.specs.declared.event.Call.TheVariants as call
use Rattle.script_spec.specs.Session.{Ending, Exchange, Held, InBlock, Nothing, OffPin, OnPin, Runs, Told, Word, release}
use Rattle.script_spec.specs.declared.script.Step.{Step}
use Rattle.script_spec.specs.declared.script.Step.TheVariants as step
use Rattle.history_check_spec.specs.Left.{Again, Between, Leads, Left, Over, Owes, OwesAgain, Phase, is_release, next_call}
use Rattle.history_check_spec.proofs.Committing.{accepted_leads, again_leads, commit, commits_by, conflict_leads, full_commit_leads, gave_up_leads}
use Rattle.history_check_spec.proofs.Leading.{abandon_leads, begin_leads, end_leads, free_collect_leads, full_collect_leads, gone_leads, leads_nowhere, leads_on, no_release_leads, no_version_leads, no_walk_leads, not_refused, off_collect_leads, owes_again_leads, owes_leads, pin_at_leads, pin_collect_leads, pin_leads, release_leads, run_leads, walk_leads}
use Rattle.history_check_spec.proofs.Lines.{to_line}

abbrev pub call_of : Exchange → Call
call_of (Told c a) = c

-- the exchange is the next call, and leads on, whatever the versions are
pub record Advance (phase : Phase) (lines : List Step) (e : Exchange) : Type 0 where
  pub next : Phase
  pub left : List Step
  pub call : next_call (is_release (call_of e)) phase lines ≡ Some (call_of e)
  pub leads : (versions : ℕ → Design) → (words : List Word) × Leads versions phase lines (e ∷ []) words next left

same_exchange : (phase : Phase) (lines : List Step) (e f : Exchange) → e ≡ f → Advance phase lines f → Advance phase lines e
same_exchange phase lines e f is a = subst (λ (z : Exchange). Advance phase lines z) (sym is) a

-- the first of two rows of exchanges that are the same
same_first : (e f : Exchange) (xs ys : List Exchange) → e ∷ xs ≡ f ∷ ys → e ≡ f
same_first e f xs ys is = cc (is)

-- behind lines that make no call
passes : (phase mid : Phase) (lines between : List Step) (e : Exchange) → ((r : Bool) → next_call r phase lines ≡ next_call r mid between)
    → ((versions : ℕ → Design) → (words : List Word) × Leads versions phase lines [] words mid between) → Advance mid between e → Advance phase lines e
passes phase mid lines between e calls silent a = record {
  next = a.next;
  left = a.left;
  call = calls (is_release (call_of e)) ∙ a.call;
  leads = λ versions.
      let first = silent versions in
      let then = a.leads versions in
      (first.0 ++ then.0, leads_on versions phase mid a.next lines between a.left [] (e ∷ []) first.0 then.0 first.1 then.1);
}

conflict_on : (pin v retries : ℕ) (ops : List Op) (lines : List Step) (object : Object) (w : ℕ)
    → Advance (Between (InBlock pin v retries ops)) (step.Commit ∷ lines) (commit pin ops (answer.Conflict object w))
conflict_on pin v zero ops lines object w = record { next = Owes pin; left = lines; call = refl; leads = λ versions. (_, gave_up_leads versions pin v ops lines object w) }
conflict_on pin v (suc n) ops lines object w = record {
  next = OwesAgain pin n ops;
  left = step.Commit ∷ lines;
  call = refl;
  leads = λ versions. (_, conflict_leads versions pin v n ops lines object w);
}

abbrev released_on : (phase : Phase) (lines : List Step) (pin : ℕ) → Type 0
released_on phase lines pin = Advance phase lines (release pin)

advance_line : (versions : ℕ → Design) (held : Held) (lines : List Step) (e : Exchange) (rest : List Exchange) (all : List Word) (ending : Ending)
    → Runs versions held lines (e ∷ rest) all ending → Advance (Between held) lines e
advance_line versions Nothing [] e rest all ending runs = let none : e ∷ rest ≡ [] = runs.0 in absurd (cc (none))
advance_line versions OffPin [] e rest all ending runs = let none : e ∷ rest ≡ [] = runs.0 in absurd (cc (none))
advance_line versions (OnPin pin v) [] e rest all ending runs =
    same_exchange _ _ e (release pin) (same_first e (release pin) rest [] runs.0)
    (record { next = Between Nothing; left = []; call = refl; leads = λ vs. (_, end_leads vs (OnPin pin v) pin refl) })
advance_line versions (InBlock pin v retries ops) [] e rest all ending runs =
    same_exchange _ _ e (release pin) (same_first e (release pin) rest [] runs.0)
    (record { next = Between Nothing; left = []; call = refl; leads = λ vs. (_, end_leads vs (InBlock pin v retries ops) pin refl) })
advance_line versions Nothing (step.Begin n ∷ lines) e rest all ending runs =
    let l = to_line versions Nothing (step.Begin n) lines (e ∷ rest) all ending runs in
    elim l.goes [
      | inl x ↦ let none = not_refused versions Nothing (step.Begin n) lines e rest all ending [] 2 l x in absurd (cc (none))
      | inr x ↦ same_exchange _ _ e (Told call.Pin (answer.Pinned x.0 x.1)) (same_first e _ rest l.others (l.calls ∙ ap (λ (z : List Exchange). z ++ l.others) x.2.0))
          (record { next = Between (InBlock x.0 x.1 n []); left = lines; call = refl; leads = λ vs. (_, begin_leads vs n x.0 x.1 lines) })
    ]
advance_line versions Nothing (step.Pin ∷ lines) e rest all ending runs =
    let l = to_line versions Nothing step.Pin lines (e ∷ rest) all ending runs in
    elim l.goes [
      | inl x ↦ let none = not_refused versions Nothing step.Pin lines e rest all ending [] 2 l x in absurd (cc (none))
      | inr x ↦ same_exchange _ _ e (Told call.Pin (answer.Pinned x.0 x.1)) (same_first e _ rest l.others (l.calls ∙ ap (λ (z : List Exchange). z ++ l.others) x.2.0))
          (record { next = Between (OnPin x.0 x.1); left = lines; call = refl; leads = λ vs. (_, pin_leads vs x.0 x.1 lines) })
    ]
advance_line versions Nothing (step.PinAt w ∷ lines) e rest all ending runs =
    let l = to_line versions Nothing (step.PinAt w) lines (e ∷ rest) all ending runs in
    elim l.goes [
      | inl x ↦ let none = not_refused versions Nothing (step.PinAt w) lines e rest all ending [] 2 l x in absurd (cc (none))
      | inr (inl x) ↦ same_exchange _ _ e (Told (call.PinAt w) (answer.Pinned x.0 x.1)) (same_first e _ rest l.others (l.calls ∙ ap (λ (z : List Exchange). z ++ l.others) x.2.0))
          (record { next = Between (OnPin x.0 x.1); left = lines; call = refl; leads = λ vs. (_, pin_at_leads vs w x.0 x.1 lines) })
      | inr (inr (inl x)) ↦ same_exchange _ _ e (Told (call.PinAt w) (answer.NoVersion x.0)) (same_first e _ rest l.others (l.calls ∙ ap (λ (z : List Exchange). z ++ l.others) x.1.0))
          (record { next = Between OffPin; left = lines; call = refl; leads = λ vs. (_, no_version_leads vs w x.0 lines) })
      | inr (inr (inr x)) ↦ same_exchange _ _ e (Told (call.PinAt w) (answer.Gone x.0)) (same_first e _ rest l.others (l.calls ∙ ap (λ (z : List Exchange). z ++ l.others) x.1.0))
          (record { next = Between OffPin; left = lines; call = refl; leads = λ vs. (_, gone_leads vs w x.0 lines) })
    ]
advance_line versions Nothing (step.Collect ∷ lines) e rest all ending runs =
    let l = to_line versions Nothing step.Collect lines (e ∷ rest) all ending runs in
    elim l.goes [
      | inl x ↦ let none = not_refused versions Nothing step.Collect lines e rest all ending [] 1 l x in absurd (cc (none))
      | inr x ↦ same_exchange _ _ e (Told call.Collect (answer.Collected x.0)) (same_first e _ rest l.others (l.calls ∙ ap (λ (z : List Exchange). z ++ l.others) x.1.0))
          (record { next = Between Nothing; left = lines; call = refl; leads = λ vs. (_, free_collect_leads vs x.0 lines) })
    ]
advance_line versions OffPin (step.Collect ∷ lines) e rest all ending runs =
    let l = to_line versions OffPin step.Collect lines (e ∷ rest) all ending runs in
    elim l.goes [
      | inl x ↦ let none = not_refused versions OffPin step.Collect lines e rest all ending [] 1 l x in absurd (cc (none))
      | inr x ↦ same_exchange _ _ e (Told call.Collect (answer.Collected x.0)) (same_first e _ rest l.others (l.calls ∙ ap (λ (z : List Exchange). z ++ l.others) x.1.0))
          (record { next = Between OffPin; left = lines; call = refl; leads = λ vs. (_, off_collect_leads vs x.0 lines) })
    ]
advance_line versions (OnPin pin v) (step.Collect ∷ lines) e rest all ending runs =
    let l = to_line versions (OnPin pin v) step.Collect lines (e ∷ rest) all ending runs in
    elim l.goes [
      | inl x ↦ same_exchange _ _ e (release pin) (same_first e _ rest [] (not_refused versions (OnPin pin v) step.Collect lines e rest all ending (release pin ∷ []) 1 l x))
          (record { next = Over 1; left = lines; call = refl; leads = λ vs. (_, full_collect_leads vs pin v lines) })
      | inr x ↦ same_exchange _ _ e (Told call.Collect (answer.Collected x.0)) (same_first e _ rest l.others (l.calls ∙ ap (λ (z : List Exchange). z ++ l.others) x.1.0))
          (record { next = Between (OnPin pin v); left = lines; call = refl; leads = λ vs. (_, pin_collect_leads vs pin v x.0 lines) })
    ]
advance_line versions (OnPin pin v) (step.Walk limit ∷ lines) e rest all ending runs =
    let then = (walk_leads versions pin v limit lines).back (e ∷ rest) all ending runs in
    passes _ _ _ _ e (λ r. refl) (λ vs. (_, walk_leads vs pin v limit lines)) (advance_line versions (OnPin pin v) lines e rest then.0 ending then.2)
advance_line versions OffPin (step.Walk limit ∷ lines) e rest all ending runs =
    let then = (no_walk_leads versions limit lines).back (e ∷ rest) all ending runs in
    passes _ _ _ _ e (λ r. refl) (λ vs. (_, no_walk_leads vs limit lines)) (advance_line versions OffPin lines e rest then.0 ending then.2)
advance_line versions OffPin (step.Release ∷ lines) e rest all ending runs =
    let then = (no_release_leads versions lines).back (e ∷ rest) all ending runs in
    passes _ _ _ _ e (λ r. refl) (λ vs. (_, no_release_leads vs lines)) (advance_line versions Nothing lines e rest then.0 ending then.2)
advance_line versions (InBlock pin v retries ops) (step.Run op ∷ lines) e rest all ending runs =
    let then = (run_leads versions pin v retries ops op lines).back (e ∷ rest) all ending runs in
    passes _ _ _ _ e (λ r. refl) (λ vs. (_, run_leads vs pin v retries ops op lines)) (advance_line versions (InBlock pin v retries (ops ++ op ∷ [])) lines e rest then.0 ending then.2)
advance_line versions (OnPin pin v) (step.Release ∷ lines) e rest all ending runs =
    let l = to_line versions (OnPin pin v) step.Release lines (e ∷ rest) all ending runs in
    same_exchange _ _ e (release pin) (same_first e _ rest l.others (l.calls ∙ ap (λ (z : List Exchange). z ++ l.others) l.goes.0))
    (record { next = Between Nothing; left = lines; call = refl; leads = λ vs. (_, release_leads vs pin v lines) })
advance_line versions (InBlock pin v retries ops) (step.Abandon ∷ lines) e rest all ending runs =
    let l = to_line versions (InBlock pin v retries ops) step.Abandon lines (e ∷ rest) all ending runs in
    same_exchange _ _ e (release pin) (same_first e _ rest l.others (l.calls ∙ ap (λ (z : List Exchange). z ++ l.others) l.goes.0))
    (record { next = Between Nothing; left = lines; call = refl; leads = λ vs. (_, abandon_leads vs pin v retries ops lines) })
advance_line versions (InBlock pin v retries ops) (step.Commit ∷ lines) e rest all ending runs =
    let l = to_line versions (InBlock pin v retries ops) step.Commit lines (e ∷ rest) all ending runs in
    elim (commits_by versions ops retries pin l.first l.words l.outcome l.goes) [
      | inl x ↦ same_exchange _ _ e (release pin) (same_first e _ rest [] (not_refused versions (InBlock pin v retries ops) step.Commit lines e rest all ending (release pin ∷ []) 1 l x))
          (record { next = Over 1; left = lines; call = refl; leads = λ vs. (_, full_commit_leads vs pin v ops lines retries) })
      | inr (inl x) ↦ same_exchange _ _ e (commit pin ops (answer.Committed x.0 x.1)) (same_first e _ rest _ (l.calls ∙ ap (λ (z : List Exchange). z ++ l.others) x.2.0))
          (record { next = Owes pin; left = lines; call = refl; leads = λ vs. (_, accepted_leads vs pin v ops lines retries x.0 x.1) })
      | inr (inr x) ↦ same_exchange _ _ e (commit pin ops (answer.Conflict x.0 x.1)) (same_first e _ rest _ (l.calls ∙ ap (λ (z : List Exchange). z ++ l.others) x.3))
          (conflict_on pin v retries ops lines x.0 x.1)
    ]
advance_line versions held (step ∷ lines) e rest all ending runs = absurd (to_line versions held step lines (e ∷ rest) all ending runs).goes

pub advance : (versions : ℕ → Design) (phase : Phase) (lines : List Step) (e : Exchange) (rest : List Exchange) (all : List Word) (ending : Ending)
    → Left versions phase lines (e ∷ rest) all ending → Advance phase lines e
advance versions (Between held) lines e rest all ending left = advance_line versions held lines e rest all ending left
advance versions (Owes pin) lines e rest all ending left =
    same_exchange _ _ e (release pin) (same_first e _ rest left.0 left.1) (record { next = Between Nothing; left = lines; call = refl; leads = λ vs. (_, owes_leads vs pin lines) })
advance versions (OwesAgain pin retries ops) lines e rest all ending left =
    same_exchange _ _ e (release pin) (same_first e _ rest left.0 left.1) (record { next = Again retries ops; left = lines; call = refl; leads = λ vs. (_, owes_again_leads vs pin retries ops lines) })
advance versions (Again retries ops) lines e rest all ending (inl x) = let none : e ∷ rest ≡ [] = x.0 in absurd (cc (none))
advance versions (Again retries ops) lines e rest all ending (inr x) =
    same_exchange _ _ e (Told call.Pin (answer.Pinned x.0 x.1)) (same_first e _ rest x.2 x.4)
    (record { next = Between (InBlock x.0 x.1 retries ops); left = lines; call = refl; leads = λ vs. (_, again_leads vs x.0 x.1 retries ops lines) })
advance versions (Over places) lines e rest all ending left = let none : e ∷ rest ≡ [] = left.0 in absurd (cc (none))

-- ---- some exchanges

pub record Come (phase : Phase) (lines : List Step) (own : List Exchange) : Type 0 where
  pub next : Phase
  pub left : List Step
  pub leads : (versions : ℕ → Design) → (said : List Word) × Leads versions phase lines own said next left

pub come : (versions : ℕ → Design) (phase : Phase) (lines : List Step) (own rest : List Exchange) (all : List Word) (ending : Ending)
    → Left versions phase lines (own ++ rest) all ending → Come phase lines own
come versions phase lines [] rest all ending left = record { next = phase; left = lines; leads = λ vs. ([], leads_nowhere vs phase lines) }
come versions phase lines (e ∷ own) rest all ending left =
    let a = advance versions phase lines e (own ++ rest) all ending left in
    let then = (a.leads versions).1.back (own ++ rest) all ending left in
    let c = come versions a.next a.left own rest then.0 ending then.2 in
    record {
      next = c.next;
      left = c.left;
      leads = λ vs. ((a.leads vs).0 ++ (c.leads vs).0, leads_on vs phase a.next c.next lines a.left c.left (e ∷ []) own (a.leads vs).0 (c.leads vs).0 (a.leads vs).1 (c.leads vs).1);
    }
