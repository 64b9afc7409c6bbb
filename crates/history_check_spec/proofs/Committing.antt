-- What the commit of a block leads to.
use Rattle.std.proofs.Common.{◌≡◌, ◌∙◌, ℕ, zero, suc, List, [], ◌∷◌, ◌++◌, inl, inr, refl, ap, sym, subst, append_assoc}
use Rattle.std.specs.Prelude.{◌⊎◌}
use Rattle.netlist_schema.specs.Design.{Design}
use Rattle.netlist_schema.specs.Types.{Object}
use Rattle.edit_spec.specs.declared.ops.Op.{Op}
use Rattle.edit_rules_spec.specs.declared.reply.Reply.{Reply}
use Rattle.db_spec.specs.declared.event.Answer.{Answer}
use Rattle.db_spec.specs.declared.event.Answer.TheVariants as answer
use Rattle.db_spec.specs.declared.event.Call.TheVariants as call
use Rattle.script_spec.specs.Session.{Accepts, Began, BeginsAgain, Commits, Committed, Conflict, Ending, Exchange, InBlock, LogFull, Nothing, On, Outcome, Refused, Runs, Stop, Told, Word, release, replied}
use Rattle.script_spec.specs.declared.script.Step.{Step}
use Rattle.script_spec.specs.declared.script.Step.TheVariants as step
use Rattle.history_check_spec.specs.Left.{Again, Between, Leads, Over, Owes, OwesAgain, RunsAgain}
use Rattle.history_check_spec.proofs.Lines.{Follows, Line, from_line, refused_is, to_line}
use Rattle.history_check_spec.proofs.Leading.{full_leads, not_refused}

-- a commit's exchange
abbrev pub commit : ℕ → List Op → Answer → Exchange
commit pin ops a = Told (call.Commit pin ops) a

-- the first exchange of a commit was a conflict
abbrev Conflicts : List Op → ℕ → List Exchange → Type 0
Conflicts ops pin done = (object : Object) × (w : ℕ) × (rest : List Exchange) × (done ≡ commit pin ops (answer.Conflict object w) ∷ rest)

-- refused, accepted, or a conflict
pub commits_by : (versions : ℕ → Design) (ops : List Op) (retries pin : ℕ) (done : List Exchange) (said : List Word) (o : Outcome) → Commits versions ops retries pin done said o
    → Refused (release pin ∷ []) 1 done said o ⊎ (Accepts ops pin done said o ⊎ Conflicts ops pin done)
commits_by versions ops zero pin done said o (inl x) = inl x
commits_by versions ops zero pin done said o (inr (inl x)) = inr (inl x)
commits_by versions ops zero pin done said o (inr (inr x)) = inr (inr (x.0, x.1, release pin ∷ [], x.2.0))
commits_by versions ops (suc n) pin done said o (inl x) = inl x
commits_by versions ops (suc n) pin done said o (inr (inl x)) = inr (inl x)
commits_by versions ops (suc n) pin done said o (inr (inr x)) = inr (inr (x.0, x.1, release pin ∷ x.2, x.4))

refuses : (versions : ℕ → Design) (ops : List Op) (retries pin : ℕ) → Commits versions ops retries pin (release pin ∷ []) (LogFull ∷ []) (Stop 1)
refuses versions ops zero pin = inl (refl, refl, refl)
refuses versions ops (suc n) pin = inl (refl, refl, refl)

accepts : (versions : ℕ → Design) (ops : List Op) (retries pin w : ℕ) (replies : List Reply)
    → Commits versions ops retries pin (commit pin ops (answer.Committed w replies) ∷ release pin ∷ []) (Committed w ∷ []) (On Nothing)
accepts versions ops zero pin w replies = inr (inl (w, replies, (refl, refl, refl)))
accepts versions ops (suc n) pin w replies = inr (inl (w, replies, (refl, refl, refl)))

module _ (versions : ℕ → Design) (pin v : ℕ) (ops : List Op) (lines : List Step) where
  -- the log was full for the commit
  pub full_commit_leads : (retries : ℕ) → Leads versions (Between (InBlock pin v retries ops)) (step.Commit ∷ lines) (release pin ∷ []) (LogFull ∷ []) (Over 1) lines
  full_commit_leads retries = full_leads versions (InBlock pin v retries ops) pin 1 step.Commit lines (refuses versions ops retries pin)
      (λ others all ending l. elim (commits_by versions ops retries pin l.first l.words l.outcome l.goes) [
        | inl x ↦ x
        | inr (inl x) ↦ let same : release pin ∷ others ≡ commit pin ops (answer.Committed x.0 x.1) ∷ release pin ∷ l.others = l.calls ∙ ap (λ (z : List Exchange). z ++ l.others) x.2.0 in absurd (cc (same))
        | inr (inr x) ↦ let same : release pin ∷ others ≡ commit pin ops (answer.Conflict x.0 x.1) ∷ (x.2 ++ l.others) = l.calls ∙ ap (λ (z : List Exchange). z ++ l.others) x.3 in absurd (cc (same))
      ])

  -- behind an exchange that ends the block, its pin is released
  owed : (e : Exchange) (word : Word) (retries : ℕ) → Commits versions ops retries pin (e ∷ release pin ∷ []) (word ∷ []) (On Nothing)
      → ((others : List Exchange) (all : List Word) (ending : Ending) → (l : Line versions (InBlock pin v retries ops) step.Commit lines (e ∷ others) all ending)
      → (l.first ≡ e ∷ release pin ∷ []) × (l.words ≡ word ∷ []) × (l.outcome ≡ On Nothing))
      → Leads versions (Between (InBlock pin v retries ops)) (step.Commit ∷ lines) (e ∷ []) (word ∷ []) (Owes pin) lines
  owed e word retries goes only = record {
    on = λ others more ending then.
        subst (λ (z : List Exchange). Runs versions (InBlock pin v retries ops) (step.Commit ∷ lines) (e ∷ z) (word ∷ more) ending) (sym then.1)
        (from_line versions (InBlock pin v retries ops) step.Commit lines (e ∷ release pin ∷ []) then.0 (word ∷ []) more (On Nothing) ending goes then.2);
    back = λ others all ending then.
        let l = to_line versions (InBlock pin v retries ops) step.Commit lines (e ∷ others) all ending then in
        let is = only others all ending l in
        let calls : e ∷ others ≡ e ∷ release pin ∷ l.others = l.calls ∙ ap (λ (z : List Exchange). z ++ l.others) is.0 in (
          l.more,
          l.says ∙ ap (λ (z : List Word). z ++ l.more) is.1,
          (l.others, cc (calls), subst (λ (o : Outcome). Follows versions lines o l.others l.more ending) is.2 l.follows),
        );
  }

  pub accepted_leads : (retries w : ℕ) (replies : List Reply)
      → Leads versions (Between (InBlock pin v retries ops)) (step.Commit ∷ lines) (commit pin ops (answer.Committed w replies) ∷ []) (Committed w ∷ []) (Owes pin) lines
  accepted_leads retries w replies = owed (commit pin ops (answer.Committed w replies)) (Committed w) retries (accepts versions ops retries pin w replies)
      (λ others all ending l. elim (commits_by versions ops retries pin l.first l.words l.outcome l.goes) [
        | inl x ↦ let e = not_refused versions (InBlock pin v retries ops) step.Commit lines (commit pin ops (answer.Committed w replies)) others all ending (release pin ∷ []) 1 l x in absurd (cc (e))
        | inr (inl x) ↦
            let same : commit pin ops (answer.Committed w replies) ∷ others ≡ commit pin ops (answer.Committed x.0 x.1) ∷ release pin ∷ l.others =
            l.calls ∙ ap (λ (z : List Exchange). z ++ l.others) x.2.0 in
            let heads : commit pin ops (answer.Committed w replies) ≡ commit pin ops (answer.Committed x.0 x.1) = cc (same) in
            let version : w ≡ x.0 = cc (same) in
            (x.2.0 ∙ ap (λ (z : Exchange). z ∷ release pin ∷ []) (sym heads), x.2.1 ∙ ap (λ (n : ℕ). Committed n ∷ []) (sym version), x.2.2)
        | inr (inr x) ↦
            let same : commit pin ops (answer.Committed w replies) ∷ others ≡ commit pin ops (answer.Conflict x.0 x.1) ∷ (x.2 ++ l.others) = l.calls ∙ ap (λ (z : List Exchange). z ++ l.others) x.3 in
            absurd (cc (same))
      ])

  pub gave_up_leads : (object : Object) (w : ℕ)
      → Leads versions (Between (InBlock pin v 0 ops)) (step.Commit ∷ lines) (commit pin ops (answer.Conflict object w) ∷ []) (Conflict object w ∷ []) (Owes pin) lines
  gave_up_leads object w = owed (commit pin ops (answer.Conflict object w)) (Conflict object w) 0 (inr (inr (object, w, (refl, refl, refl))))
      (λ others all ending l. elim l.goes [
        | inl x ↦ let e = not_refused versions (InBlock pin v 0 ops) step.Commit lines (commit pin ops (answer.Conflict object w)) others all ending (release pin ∷ []) 1 l x in absurd (cc (e))
        | inr (inl x) ↦
            let same : commit pin ops (answer.Conflict object w) ∷ others ≡ commit pin ops (answer.Committed x.0 x.1) ∷ release pin ∷ l.others =
            l.calls ∙ ap (λ (z : List Exchange). z ++ l.others) x.2.0 in absurd (cc (same))
        | inr (inr x) ↦
            let same : commit pin ops (answer.Conflict object w) ∷ others ≡ commit pin ops (answer.Conflict x.0 x.1) ∷ release pin ∷ l.others =
            l.calls ∙ ap (λ (z : List Exchange). z ++ l.others) x.2.0 in
            let heads : commit pin ops (answer.Conflict object w) ≡ commit pin ops (answer.Conflict x.0 x.1) = cc (same) in
            let objects : object ≡ x.0 = cc (same) in
            let version : w ≡ x.1 = cc (same) in
            (x.2.0 ∙ ap (λ (z : Exchange). z ∷ release pin ∷ []) (sym heads), x.2.1 ∙ cc (objects, version), x.2.2)
      ])

-- ---- a block that is run again

-- it is run again, as its line goes on behind the release
again_goes : (versions : ℕ → Design) (pin v retries : ℕ) (ops : List Op) (lines : List Step) (object : Object) (w : ℕ) (rest : List Exchange) (more : List Word) (ending : Ending)
    → RunsAgain versions retries ops (step.Commit ∷ lines) rest more ending
    → Runs versions (InBlock pin v (suc retries) ops) (step.Commit ∷ lines) (commit pin ops (answer.Conflict object w) ∷ release pin ∷ rest) (Conflict object w ∷ more) ending
again_goes versions pin v retries ops lines object w rest more ending (inl x) =
    let runs = from_line versions (InBlock pin v (suc retries) ops) step.Commit lines (commit pin ops (answer.Conflict object w) ∷ release pin ∷ []) [] (Conflict object w ∷ LogFull ∷ []) [] (Stop 2) ending
    (inr (inr (object, w, [], LogFull ∷ [], refl, refl, inl (refl, refl, refl)))) (refl, refl, x.2) in
    subst (λ (z : List Word). Runs versions (InBlock pin v (suc retries) ops) (step.Commit ∷ lines) (commit pin ops (answer.Conflict object w) ∷ release pin ∷ rest) (Conflict object w ∷ z) ending) (sym x.1)
    (subst (λ (z : List Exchange). Runs versions (InBlock pin v (suc retries) ops) (step.Commit ∷ lines) (commit pin ops (answer.Conflict object w) ∷ release pin ∷ z) (Conflict object w ∷ LogFull ∷ []) ending) (sym x.0) runs)
again_goes versions pin v retries ops lines object w rest more ending (inr (q, u, others, words, calls, says, runs)) =
    let l = to_line versions (InBlock q u retries ops) step.Commit lines others words ending runs in
    let whole = from_line versions (InBlock pin v (suc retries) ops) step.Commit lines
    (commit pin ops (answer.Conflict object w) ∷ release pin ∷ Told call.Pin (answer.Pinned q u) ∷ l.first) l.others
    (Conflict object w ∷ Began u ∷ (replied (versions u) ops ++ l.words)) l.more l.outcome ending
    (inr (inr (object, w, Told call.Pin (answer.Pinned q u) ∷ l.first, Began u ∷ (replied (versions u) ops ++ l.words), refl, refl, inr (q, u, l.first, l.words, refl, refl, l.goes)))) l.follows in
    let done : rest ≡ Told call.Pin (answer.Pinned q u) ∷ (l.first ++ l.others) = calls ∙ ap (λ (z : List Exchange). Told call.Pin (answer.Pinned q u) ∷ z) l.calls in
    let said : more ≡ Began u ∷ ((replied (versions u) ops ++ l.words) ++ l.more) =
    says ∙ ap (λ (z : List Word). Began u ∷ (replied (versions u) ops ++ z)) l.says ∙ ap (λ (z : List Word). Began u ∷ z) (sym (append_assoc (replied (versions u) ops) l.words l.more)) in
    subst (λ (z : List Word). Runs versions (InBlock pin v (suc retries) ops) (step.Commit ∷ lines) (commit pin ops (answer.Conflict object w) ∷ release pin ∷ rest) (Conflict object w ∷ z) ending) (sym said)
    (subst (λ (z : List Exchange). Runs versions (InBlock pin v (suc retries) ops) (step.Commit ∷ lines) (commit pin ops (answer.Conflict object w) ∷ release pin ∷ z)
    (Conflict object w ∷ Began u ∷ ((replied (versions u) ops ++ l.words) ++ l.more)) ending) (sym done) whole)

-- what comes behind the release in the line is that the block is run again
goes_again : (versions : ℕ → Design) (retries : ℕ) (ops : List Op) (lines : List Step) (rest others : List Exchange) (more after : List Word) (outcome : Outcome) (ending : Ending)
    → Refused [] 2 rest more outcome ⊎ BeginsAgain versions ops rest more (λ next rests words. Commits versions ops retries next rests words outcome)
    → Follows versions lines outcome others after ending → RunsAgain versions retries ops (step.Commit ∷ lines) (rest ++ others) (more ++ after) ending
goes_again versions retries ops lines rest others more after outcome ending (inl x) follows = inl (refused_is versions lines [] 2 rest others more after outcome ending x follows)
goes_again versions retries ops lines rest others more after outcome ending (inr (q, u, rests, words, calls, says, commits)) follows =
    inr (
      q,
      u,
      rests ++ others,
      words ++ after,
      ap (λ (z : List Exchange). z ++ others) calls,
      ap (λ (z : List Word). z ++ after) says ∙ ap (λ (z : List Word). Began u ∷ z) (append_assoc (replied (versions u) ops) words after),
      from_line versions (InBlock q u retries ops) step.Commit lines rests others words after outcome ending commits follows,
    )

pub conflict_leads : (versions : ℕ → Design) (pin v retries : ℕ) (ops : List Op) (lines : List Step) (object : Object) (w : ℕ)
    → Leads versions (Between (InBlock pin v (suc retries) ops)) (step.Commit ∷ lines) (commit pin ops (answer.Conflict object w) ∷ []) (Conflict object w ∷ []) (OwesAgain pin retries ops) (step.Commit ∷ lines)
conflict_leads versions pin v retries ops lines object w = record {
  on = λ others more ending then.
      subst (λ (z : List Exchange). Runs versions (InBlock pin v (suc retries) ops) (step.Commit ∷ lines) (commit pin ops (answer.Conflict object w) ∷ z) (Conflict object w ∷ more) ending) (sym then.1)
      (again_goes versions pin v retries ops lines object w then.0 more ending then.2);
  back = λ others all ending then.
      let l = to_line versions (InBlock pin v (suc retries) ops) step.Commit lines (commit pin ops (answer.Conflict object w) ∷ others) all ending then in
      elim l.goes [
        | inl x ↦ let e = not_refused versions (InBlock pin v (suc retries) ops) step.Commit lines (commit pin ops (answer.Conflict object w)) others all ending (release pin ∷ []) 1 l x in absurd (cc (e))
        | inr (inl x) ↦
            let same : commit pin ops (answer.Conflict object w) ∷ others ≡ commit pin ops (answer.Committed x.0 x.1) ∷ release pin ∷ l.others =
            l.calls ∙ ap (λ (z : List Exchange). z ++ l.others) x.2.0 in absurd (cc (same))
        | inr (inr x) ↦
            let same : commit pin ops (answer.Conflict object w) ∷ others ≡ commit pin ops (answer.Conflict x.0 x.1) ∷ release pin ∷ (x.2 ++ l.others) =
            l.calls ∙ ap (λ (z : List Exchange). z ++ l.others) x.4 in
            let objects : object ≡ x.0 = cc (same) in
            let version : w ≡ x.1 = cc (same) in
            let said : all ≡ Conflict x.0 x.1 ∷ (x.3 ++ l.more) = l.says ∙ ap (λ (z : List Word). z ++ l.more) x.5 in
            (x.3 ++ l.more, said ∙ cc (objects, version), (x.2 ++ l.others, cc (same), goes_again versions retries ops lines x.2 l.others x.3 l.more l.outcome ending x.6 l.follows))
      ];
}

-- the block is run again on a new pin
pub again_leads : (versions : ℕ → Design) (pin v retries : ℕ) (ops : List Op) (lines : List Step)
    → Leads versions (Again retries ops) lines (Told call.Pin (answer.Pinned pin v) ∷ []) (Began v ∷ replied (versions v) ops) (Between (InBlock pin v retries ops)) lines
again_leads versions pin v retries ops lines = record {
  on = λ others more ending then. inr (pin, v, others, more, refl, refl, then);
  back = λ others all ending then. elim then [
    | inl x ↦ let none : Told call.Pin (answer.Pinned pin v) ∷ others ≡ [] = x.0 in absurd (cc (none))
    | inr x ↦
        let same : Told call.Pin (answer.Pinned pin v) ∷ others ≡ Told call.Pin (answer.Pinned x.0 x.1) ∷ x.2 = x.4 in
        let pins : x.0 ≡ pin = cc (same) in
        let version : x.1 ≡ v = cc (same) in
        let rests : x.2 ≡ others = cc (same) in (
          x.3,
          x.5 ∙ ap (λ (n : ℕ). Began n ∷ (replied (versions n) ops ++ x.3)) version,
          subst (λ (z : List Exchange). Runs versions (InBlock pin v retries ops) lines z x.3 ending) rests
              (subst (λ (n : ℕ). Runs versions (InBlock pin n retries ops) lines x.2 x.3 ending) version
              (subst (λ (n : ℕ). Runs versions (InBlock n x.1 retries ops) lines x.2 x.3 ending) pins x.6)),
        )
  ];
}
