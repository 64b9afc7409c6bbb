-- What leads on from one point of a session to another.
use Rattle.std.proofs.Common.{◌≡◌, ◌∙◌, ℕ, List, [], ◌∷◌, ◌++◌, inl, inr, refl, ap, sym, subst, append_assoc}
use Rattle.std.specs.Prelude.{◌⊎◌}
use Rattle.netlist_schema.specs.Design.{Design}
use Rattle.edit_spec.specs.declared.ops.Op.{Op}
use Rattle.db_spec.specs.declared.event.Answer.{Answer}
use Rattle.db_spec.specs.declared.event.Answer.TheVariants as answer
use Rattle.db_spec.specs.declared.event.Call.{Call}
use Rattle.db_spec.specs.declared.event.Call.TheVariants as call
use Rattle.script_spec.specs.Session.{Abandoned, Began, Collected, Does, Ending, Exchange, Goes, Gone, Held, InBlock, LogFull, NoPin, NoVersion, Nothing, OffPin, On, OnPin, Outcome, Pinned, Refused, Released, Replied, Stop, Told, Walked, Word, last_release, release, reply_behind}
use Rattle.script_spec.specs.declared.script.Step.{Step}
use Rattle.script_spec.specs.declared.script.Step.TheVariants as step
use Rattle.history_check_spec.specs.Left.{Again, Between, Leads, Left, Over, Owes, OwesAgain, Phase}
use Rattle.history_check_spec.proofs.Lines.{Line, does_then, from_line, refused_is, to_line}

-- nothing leads nowhere
pub leads_nowhere : (versions : ℕ → Design) (phase : Phase) (lines : List Step) → Leads versions phase lines [] [] phase lines
leads_nowhere versions phase lines = record { on = λ others more ending left. left; back = λ others all ending left. (all, refl, left) }

-- and then on
pub leads_on : (versions : ℕ → Design) (phase mid next : Phase) (lines between left : List Step) (done others : List Exchange) (words more : List Word)
    → Leads versions phase lines done words mid between → Leads versions mid between others more next left → Leads versions phase lines (done ++ others) (words ++ more) next left
leads_on versions phase mid next lines between left done others words more a b = record {
  on = λ rest after ending then.
      subst (λ (z : List Exchange). Left versions phase lines z ((words ++ more) ++ after) ending) (sym (append_assoc done others rest))
      (subst (λ (z : List Word). Left versions phase lines (done ++ (others ++ rest)) z ending) (sym (append_assoc words more after))
      (a.on (others ++ rest) (more ++ after) ending (b.on rest after ending then)));
  back = λ rest all ending then.
      let first = a.back (others ++ rest) all ending (subst (λ (z : List Exchange). Left versions phase lines z all ending) (append_assoc done others rest) then) in
      let second = b.back rest first.0 ending first.2 in
      (second.0, first.1 ∙ ap (λ (z : List Word). words ++ z) second.1 ∙ sym (append_assoc words more second.0), second.2);
}

-- a line that does just these exchanges and says these words
line_leads : (versions : ℕ → Design) (held next : Held) (step : Step) (lines : List Step) (done : List Exchange) (words : List Word)
    → Goes versions held step done words (On next)
    → ((others : List Exchange) (all : List Word) (ending : Ending) → (l : Line versions held step lines (done ++ others) all ending) → Does done words next l.first l.words l.outcome)
    → Leads versions (Between held) (step ∷ lines) done words (Between next) lines
line_leads versions held next step lines done words goes only = record {
  on = λ others more ending then. from_line versions held step lines done others words more (On next) ending goes then;
  back = λ others all ending then.
      let l = to_line versions held step lines (done ++ others) all ending then in
      does_then versions lines done words next l.first l.others others l.words l.more all l.outcome ending (only others all ending l) l.calls l.says l.follows;
}

-- ---- lines that make no call

pub run_leads : (versions : ℕ → Design) (pin v retries : ℕ) (ops : List Op) (op : Op) (lines : List Step)
    → Leads versions (Between (InBlock pin v retries ops)) (step.Run op ∷ lines) [] (Replied (reply_behind (versions v) ops op) ∷ []) (Between (InBlock pin v retries (ops ++ op ∷ []))) lines
run_leads versions pin v retries ops op lines =
    line_leads versions (InBlock pin v retries ops) (InBlock pin v retries (ops ++ op ∷ [])) (step.Run op) lines [] _ (refl, refl, refl) (λ others all ending l. l.goes)

pub walk_leads : (versions : ℕ → Design) (pin v : ℕ) (limit : _) (lines : List Step) → Leads versions (Between (OnPin pin v)) (step.Walk limit ∷ lines) [] (Walked v limit ∷ []) (Between (OnPin pin v)) lines
walk_leads versions pin v limit lines = line_leads versions (OnPin pin v) (OnPin pin v) (step.Walk limit) lines [] _ (refl, refl, refl) (λ others all ending l. l.goes)

pub no_walk_leads : (versions : ℕ → Design) (limit : _) (lines : List Step) → Leads versions (Between OffPin) (step.Walk limit ∷ lines) [] (NoPin ∷ []) (Between OffPin) lines
no_walk_leads versions limit lines = line_leads versions OffPin OffPin (step.Walk limit) lines [] _ (refl, refl, refl) (λ others all ending l. l.goes)

pub no_release_leads : (versions : ℕ → Design) (lines : List Step) → Leads versions (Between OffPin) (step.Release ∷ lines) [] (NoPin ∷ []) (Between Nothing) lines
no_release_leads versions lines = line_leads versions OffPin Nothing step.Release lines [] _ (refl, refl, refl) (λ others all ending l. l.goes)

-- ---- releases

pub release_leads : (versions : ℕ → Design) (pin v : ℕ) (lines : List Step) → Leads versions (Between (OnPin pin v)) (step.Release ∷ lines) (release pin ∷ []) (Released ∷ []) (Between Nothing) lines
release_leads versions pin v lines = line_leads versions (OnPin pin v) Nothing step.Release lines (release pin ∷ []) _ (refl, refl, refl) (λ others all ending l. l.goes)

pub abandon_leads : (versions : ℕ → Design) (pin v retries : ℕ) (ops : List Op) (lines : List Step)
    → Leads versions (Between (InBlock pin v retries ops)) (step.Abandon ∷ lines) (release pin ∷ []) (Abandoned ∷ []) (Between Nothing) lines
abandon_leads versions pin v retries ops lines =
    line_leads versions (InBlock pin v retries ops) Nothing step.Abandon lines (release pin ∷ []) _ (refl, refl, refl) (λ others all ending l. l.goes)

-- the pin that is held at the end of the lines
abbrev Holds : ℕ → Held → Type 0
Holds pin held = last_release held ≡ release pin ∷ []

pub end_leads : (versions : ℕ → Design) (held : Held) (pin : ℕ) → Holds pin held → Leads versions (Between held) [] (release pin ∷ []) [] (Between Nothing) []
end_leads versions held pin holds = record {
  on = λ others more ending then. (ap (λ (z : List Exchange). release pin ∷ z) then.0 ∙ sym holds, then.1, then.2);
  back = λ others all ending then.
      let same : release pin ∷ others ≡ release pin ∷ [] = then.0 ∙ holds in
      (all, refl, (cc (same), then.1, then.2));
}

pub owes_leads : (versions : ℕ → Design) (pin : ℕ) (lines : List Step) → Leads versions (Owes pin) lines (release pin ∷ []) [] (Between Nothing) lines
owes_leads versions pin lines = record {
  on = λ others more ending then. (others, refl, then);
  back = λ others all ending then.
      let same : others ≡ then.0 = let e : release pin ∷ others ≡ release pin ∷ then.0 = then.1 in cc (e) in
      (all, refl, subst (λ (z : List Exchange). Left versions (Between Nothing) lines z all ending) (sym same) then.2);
}

pub owes_again_leads : (versions : ℕ → Design) (pin retries : ℕ) (ops : List Op) (lines : List Step) → Leads versions (OwesAgain pin retries ops) lines (release pin ∷ []) [] (Again retries ops) lines
owes_again_leads versions pin retries ops lines = record {
  on = λ others more ending then. (others, refl, then);
  back = λ others all ending then.
      let same : others ≡ then.0 = let e : release pin ∷ others ≡ release pin ∷ then.0 = then.1 in cc (e) in
      (all, refl, subst (λ (z : List Exchange). Left versions (Again retries ops) lines z all ending) (sym same) then.2);
}

-- ---- pins

-- two pins of one exchange
pinned_does : (c : Call) (say : ℕ → List Word) (hold : ℕ → ℕ → Held) (p v q u : ℕ) (first others rest : List Exchange) (words : List Word) (outcome : Outcome)
    → Told c (answer.Pinned p v) ∷ rest ≡ first ++ others → Does (Told c (answer.Pinned q u) ∷ []) (say u) (hold q u) first words outcome
    → Does (Told c (answer.Pinned p v) ∷ []) (say v) (hold p v) first words outcome
pinned_does c say hold p v q u first others rest words outcome calls x =
    let same : Told c (answer.Pinned p v) ∷ rest ≡ Told c (answer.Pinned q u) ∷ others = calls ∙ ap (λ (z : List Exchange). z ++ others) x.0 in
    let pin : q ≡ p = cc (same) in
    let version : u ≡ v = cc (same) in
    subst (λ n. Does (Told c (answer.Pinned p n) ∷ []) (say n) (hold p n) first words outcome) version
    (subst (λ n. Does (Told c (answer.Pinned n u) ∷ []) (say u) (hold n u) first words outcome) pin x)

-- a call that is next was not refused
pub not_refused : (versions : ℕ → Design) (held : Held) (step : Step) (lines : List Step) (e : Exchange) (rest : List Exchange) (all : List Word) (ending : Ending) (left : List Exchange) (places : ℕ)
    → (l : Line versions held step lines (e ∷ rest) all ending) → Refused left places l.first l.words l.outcome → e ∷ rest ≡ left
not_refused versions held step lines e rest all ending left places l x =
    l.calls ∙ (refused_is versions lines left places l.first l.others l.words l.more l.outcome ending x l.follows).0

pub begin_leads : (versions : ℕ → Design) (retries pin v : ℕ) (lines : List Step)
    → Leads versions (Between Nothing) (step.Begin retries ∷ lines) (Told call.Pin (answer.Pinned pin v) ∷ []) (Began v ∷ []) (Between (InBlock pin v retries [])) lines
begin_leads versions retries pin v lines =
    line_leads versions Nothing (InBlock pin v retries []) (step.Begin retries) lines (Told call.Pin (answer.Pinned pin v) ∷ []) _ (inr (pin, v, (refl, refl, refl)))
    (λ others all ending l. elim l.goes [
      | inl x ↦ let e = not_refused versions Nothing (step.Begin retries) lines (Told call.Pin (answer.Pinned pin v)) others all ending [] 2 l x in absurd (cc (e))
      | inr x ↦ pinned_does call.Pin (λ n. Began n ∷ []) (λ m n. InBlock m n retries []) pin v x.0 x.1 l.first l.others others l.words l.outcome l.calls x.2
    ])

pub pin_leads : (versions : ℕ → Design) (pin v : ℕ) (lines : List Step)
    → Leads versions (Between Nothing) (step.Pin ∷ lines) (Told call.Pin (answer.Pinned pin v) ∷ []) (Pinned v ∷ []) (Between (OnPin pin v)) lines
pin_leads versions pin v lines =
    line_leads versions Nothing (OnPin pin v) step.Pin lines (Told call.Pin (answer.Pinned pin v) ∷ []) _ (inr (pin, v, (refl, refl, refl)))
    (λ others all ending l. elim l.goes [
      | inl x ↦ let e = not_refused versions Nothing step.Pin lines (Told call.Pin (answer.Pinned pin v)) others all ending [] 2 l x in absurd (cc (e))
      | inr x ↦ pinned_does call.Pin (λ n. Pinned n ∷ []) (λ m n. OnPin m n) pin v x.0 x.1 l.first l.others others l.words l.outcome l.calls x.2
    ])

-- ---- pins of a wanted version

-- two answers of one number to one call
numbered_does : (c : Call) (to : ℕ → Answer) → ((m n : ℕ) → to m ≡ to n → m ≡ n) → (say : ℕ → List Word) (held : Held) (m n : ℕ) (first others rest : List Exchange) (words : List Word) (outcome : Outcome)
    → Told c (to m) ∷ rest ≡ first ++ others → Does (Told c (to n) ∷ []) (say n) held first words outcome → Does (Told c (to m) ∷ []) (say m) held first words outcome
numbered_does c to one say held m n first others rest words outcome calls x =
    let same : Told c (to m) ∷ rest ≡ Told c (to n) ∷ others = calls ∙ ap (λ (z : List Exchange). z ++ others) x.0 in
    let answers : to m ≡ to n = cc (same) in
    subst (λ k. Does (Told c (to k) ∷ []) (say k) held first words outcome) (sym (one m n answers)) x

-- an answer of another kind was not done
other_does : (c : Call) (a b : Answer) (said : List Word) (held : Held) (first others rest : List Exchange) (words : List Word) (outcome : Outcome)
    → Told c a ∷ rest ≡ first ++ others → Does (Told c b ∷ []) said held first words outcome → a ≡ b
other_does c a b said held first others rest words outcome calls x =
    let same : Told c a ∷ rest ≡ Told c b ∷ others = calls ∙ ap (λ (z : List Exchange). z ++ others) x.0 in cc (same)

one_last : (m n : ℕ) → answer.NoVersion m ≡ answer.NoVersion n → m ≡ n
one_last m n e = cc (e)

one_least : (m n : ℕ) → answer.Gone m ≡ answer.Gone n → m ≡ n
one_least m n e = cc (e)

one_count : (m n : ℕ) → answer.Collected m ≡ answer.Collected n → m ≡ n
one_count m n e = cc (e)

pub pin_at_leads : (versions : ℕ → Design) (wanted pin v : ℕ) (lines : List Step)
    → Leads versions (Between Nothing) (step.PinAt wanted ∷ lines) (Told (call.PinAt wanted) (answer.Pinned pin v) ∷ []) (Pinned v ∷ []) (Between (OnPin pin v)) lines
pin_at_leads versions wanted pin v lines =
    line_leads versions Nothing (OnPin pin v) (step.PinAt wanted) lines (Told (call.PinAt wanted) (answer.Pinned pin v) ∷ []) _ (inr (inl (pin, v, (refl, refl, refl))))
    (λ others all ending l. elim l.goes [
      | inl x ↦ let e = not_refused versions Nothing (step.PinAt wanted) lines (Told (call.PinAt wanted) (answer.Pinned pin v)) others all ending [] 2 l x in absurd (cc (e))
      | inr (inl x) ↦ pinned_does (call.PinAt wanted) (λ n. Pinned n ∷ []) (λ m n. OnPin m n) pin v x.0 x.1 l.first l.others others l.words l.outcome l.calls x.2
      | inr (inr (inl x)) ↦ let e = other_does (call.PinAt wanted) (answer.Pinned pin v) (answer.NoVersion x.0) (NoVersion x.0 ∷ []) OffPin l.first l.others others l.words l.outcome l.calls x.1 in absurd (cc (e))
      | inr (inr (inr x)) ↦ let e = other_does (call.PinAt wanted) (answer.Pinned pin v) (answer.Gone x.0) (Gone x.0 ∷ []) OffPin l.first l.others others l.words l.outcome l.calls x.1 in absurd (cc (e))
    ])

pub no_version_leads : (versions : ℕ → Design) (wanted last : ℕ) (lines : List Step)
    → Leads versions (Between Nothing) (step.PinAt wanted ∷ lines) (Told (call.PinAt wanted) (answer.NoVersion last) ∷ []) (NoVersion last ∷ []) (Between OffPin) lines
no_version_leads versions wanted last lines =
    line_leads versions Nothing OffPin (step.PinAt wanted) lines (Told (call.PinAt wanted) (answer.NoVersion last) ∷ []) _ (inr (inr (inl (last, (refl, refl, refl)))))
    (λ others all ending l. elim l.goes [
      | inl x ↦ let e = not_refused versions Nothing (step.PinAt wanted) lines (Told (call.PinAt wanted) (answer.NoVersion last)) others all ending [] 2 l x in absurd (cc (e))
      | inr (inl x) ↦ let e = other_does (call.PinAt wanted) (answer.NoVersion last) (answer.Pinned x.0 x.1) (Pinned x.1 ∷ []) (OnPin x.0 x.1) l.first l.others others l.words l.outcome l.calls x.2 in absurd (cc (e))
      | inr (inr (inl x)) ↦ numbered_does (call.PinAt wanted) answer.NoVersion one_last (λ n. NoVersion n ∷ []) OffPin last x.0 l.first l.others others l.words l.outcome l.calls x.1
      | inr (inr (inr x)) ↦ let e = other_does (call.PinAt wanted) (answer.NoVersion last) (answer.Gone x.0) (Gone x.0 ∷ []) OffPin l.first l.others others l.words l.outcome l.calls x.1 in absurd (cc (e))
    ])

pub gone_leads : (versions : ℕ → Design) (wanted least : ℕ) (lines : List Step)
    → Leads versions (Between Nothing) (step.PinAt wanted ∷ lines) (Told (call.PinAt wanted) (answer.Gone least) ∷ []) (Gone least ∷ []) (Between OffPin) lines
gone_leads versions wanted least lines =
    line_leads versions Nothing OffPin (step.PinAt wanted) lines (Told (call.PinAt wanted) (answer.Gone least) ∷ []) _ (inr (inr (inr (least, (refl, refl, refl)))))
    (λ others all ending l. elim l.goes [
      | inl x ↦ let e = not_refused versions Nothing (step.PinAt wanted) lines (Told (call.PinAt wanted) (answer.Gone least)) others all ending [] 2 l x in absurd (cc (e))
      | inr (inl x) ↦ let e = other_does (call.PinAt wanted) (answer.Gone least) (answer.Pinned x.0 x.1) (Pinned x.1 ∷ []) (OnPin x.0 x.1) l.first l.others others l.words l.outcome l.calls x.2 in absurd (cc (e))
      | inr (inr (inl x)) ↦ let e = other_does (call.PinAt wanted) (answer.Gone least) (answer.NoVersion x.0) (NoVersion x.0 ∷ []) OffPin l.first l.others others l.words l.outcome l.calls x.1 in absurd (cc (e))
      | inr (inr (inr x)) ↦ numbered_does (call.PinAt wanted) answer.Gone one_least (λ n. Gone n ∷ []) OffPin least x.0 l.first l.others others l.words l.outcome l.calls x.1
    ])

-- ---- collects

-- a collect with this held: refused, or answered
abbrev Collects : (ℕ → Design) → Held → List Step → List Exchange → List Word → Ending → Type 0
Collects versions held lines done all ending = (l : Line versions held step.Collect lines done all ending)
    → Refused (last_release held) 1 l.first l.words l.outcome ⊎ ((count : ℕ) × Does (Told call.Collect (answer.Collected count) ∷ []) (Collected count ∷ []) held l.first l.words l.outcome)

-- a collect is no release
no_release : (held : Held) (a : Answer) (rest : List Exchange) → Told call.Collect a ∷ rest ≡ last_release held → ⊥
no_release Nothing a rest e = cc (e)
no_release (OnPin pin v) a rest e = cc (e)
no_release OffPin a rest e = cc (e)
no_release (InBlock pin v retries ops) a rest e = cc (e)

collected_by : (versions : ℕ → Design) (held : Held) (count : ℕ) (lines : List Step) → Goes versions held step.Collect (Told call.Collect (answer.Collected count) ∷ []) (Collected count ∷ []) (On held)
    → ((done : List Exchange) (all : List Word) (ending : Ending) → Collects versions held lines done all ending)
    → Leads versions (Between held) (step.Collect ∷ lines) (Told call.Collect (answer.Collected count) ∷ []) (Collected count ∷ []) (Between held) lines
collected_by versions held count lines goes either =
    line_leads versions held held step.Collect lines (Told call.Collect (answer.Collected count) ∷ []) (Collected count ∷ []) goes
    (λ others all ending l. elim (either (Told call.Collect (answer.Collected count) ∷ others) all ending l) [
      | inl x ↦ absurd (no_release held (answer.Collected count) others (not_refused versions held step.Collect lines (Told call.Collect (answer.Collected count)) others all ending (last_release held) 1 l x))
      | inr x ↦ numbered_does call.Collect answer.Collected one_count (λ n. Collected n ∷ []) held count x.0 l.first l.others others l.words l.outcome l.calls x.1
    ])

pub free_collect_leads : (versions : ℕ → Design) (count : ℕ) (lines : List Step)
    → Leads versions (Between Nothing) (step.Collect ∷ lines) (Told call.Collect (answer.Collected count) ∷ []) (Collected count ∷ []) (Between Nothing) lines
free_collect_leads versions count lines = collected_by versions Nothing count lines (inr (count, (refl, refl, refl))) (λ done all ending l. l.goes)

pub pin_collect_leads : (versions : ℕ → Design) (pin v count : ℕ) (lines : List Step)
    → Leads versions (Between (OnPin pin v)) (step.Collect ∷ lines) (Told call.Collect (answer.Collected count) ∷ []) (Collected count ∷ []) (Between (OnPin pin v)) lines
pin_collect_leads versions pin v count lines = collected_by versions (OnPin pin v) count lines (inr (count, (refl, refl, refl))) (λ done all ending l. l.goes)

pub off_collect_leads : (versions : ℕ → Design) (count : ℕ) (lines : List Step)
    → Leads versions (Between OffPin) (step.Collect ∷ lines) (Told call.Collect (answer.Collected count) ∷ []) (Collected count ∷ []) (Between OffPin) lines
off_collect_leads versions count lines = collected_by versions OffPin count lines (inr (count, (refl, refl, refl))) (λ done all ending l. l.goes)

-- a line whose call was refused by a full log, and then the held pin is released
pub full_leads : (versions : ℕ → Design) (held : Held) (pin places : ℕ) (step : Step) (lines : List Step) → Goes versions held step (release pin ∷ []) (LogFull ∷ []) (Stop places)
    → ((others : List Exchange) (all : List Word) (ending : Ending) → (l : Line versions held step lines (release pin ∷ others) all ending) → Refused (release pin ∷ []) places l.first l.words l.outcome)
    → Leads versions (Between held) (step ∷ lines) (release pin ∷ []) (LogFull ∷ []) (Over places) lines
full_leads versions held pin places step lines goes only = record {
  on = λ others more ending then. from_line versions held step lines (release pin ∷ []) others (LogFull ∷ []) more (Stop places) ending goes then;
  back = λ others all ending then.
      let l = to_line versions held step lines (release pin ∷ others) all ending then in
      let is = refused_is versions lines (release pin ∷ []) places l.first l.others l.words l.more l.outcome ending (only others all ending l) l.follows in
      let calls : release pin ∷ others ≡ release pin ∷ [] = l.calls ∙ is.0 in
      ([], l.says ∙ is.1, (cc (calls), refl, is.2));
}

pub full_collect_leads : (versions : ℕ → Design) (pin v : ℕ) (lines : List Step)
    → Leads versions (Between (OnPin pin v)) (step.Collect ∷ lines) (release pin ∷ []) (LogFull ∷ []) (Over 1) lines
full_collect_leads versions pin v lines = full_leads versions (OnPin pin v) pin 1 step.Collect lines (inl (refl, refl, refl))
    (λ others all ending l. elim l.goes [
      | inl x ↦ x
      | inr x ↦ let same : release pin ∷ others ≡ Told call.Collect (answer.Collected x.0) ∷ l.others = l.calls ∙ ap (λ (z : List Exchange). z ++ l.others) x.1.0 in absurd (cc (same))
    ])
