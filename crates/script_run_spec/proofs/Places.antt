-- Lines in their places, and how a script can end from each of them.
use Rattle.std.proofs.Common.{◌≡◌, ◌∙◌, ℕ, zero, suc, List, [], ◌∷◌, ◌++◌, Some, None, inl, inr, refl, sym, subst, append_assoc}
use Rattle.netlist_schema.specs.Design.{Design}
use Rattle.edit_spec.specs.declared.ops.Op.{Op}
use Rattle.script_spec.specs.ScriptText.{Place, Free, Block, Holding, ArePlaced, behind}
use Rattle.script_spec.specs.Session.{Word, LogFull, Commits, Ending, Whole, Full, Exchange, Goes, Held, Nothing, OnPin, OffPin, InBlock, Outcome, On, Stop, Runs, last_release, release}
use Rattle.script_spec.specs.declared.script.Step.{Step}
use Rattle.script_spec.specs.declared.script.Step.TheVariants.{Begin, Run, Commit, Abandon, Pin, PinAt, Walk, Release, Collect}
use Rattle.script_run_spec.specs.Lines.{place_of}

-- ---- the place behind a line

abbrev OutcomeIn : Place → Outcome → Type 0
OutcomeIn place (On held) = place_of held ≡ place
OutcomeIn place (Stop n) = Unit {0}

stands : (place : Place) (o p : Outcome) → o ≡ p → OutcomeIn place p → OutcomeIn place o
stands place o p e h = subst (OutcomeIn place) (sym e) h

commits_stand : (versions : ℕ → Design) (ops : List Op) (retries pin : ℕ) (done : List Exchange) (said : List Word) (o : Outcome)
    → Commits versions ops retries pin done said o → OutcomeIn Free o
commits_stand versions ops zero pin done said o (inl x) = stands Free o (Stop 1) x.2 tt
commits_stand versions ops zero pin done said o (inr (inl x)) = stands Free o (On Nothing) x.2.2 refl
commits_stand versions ops zero pin done said o (inr (inr x)) = stands Free o (On Nothing) x.2.2 refl
commits_stand versions ops (suc n) pin done said o (inl x) = stands Free o (Stop 1) x.2 tt
commits_stand versions ops (suc n) pin done said o (inr (inl x)) = stands Free o (On Nothing) x.2.2 refl
commits_stand versions ops (suc n) pin done said o (inr (inr (object, w, rest, more, d, s, inl y))) = stands Free o (Stop 2) y.2 tt
commits_stand versions ops (suc n) pin done said o (inr (inr (object, w, rest, more, d, s, inr y))) =
    commits_stand versions ops n y.0 y.2 y.3 o y.6

-- the line stands in its place, and behind it is the place of what is held then
abbrev Fits : Held → Step → Outcome → Type 0
Fits held step o = (next : Place) × (behind (place_of held) step ≡ Some next) × OutcomeIn next o

goes_stand : (versions : ℕ → Design) (held : Held) (step : Step) (done : List Exchange) (said : List Word) (o : Outcome) → Goes versions held step done said o → Fits held step o
goes_stand versions Nothing (Begin n) done said o (inl x) = (Block, refl, stands Block o (Stop 2) x.2 tt)
goes_stand versions Nothing (Begin n) done said o (inr x) = (Block, refl, stands Block o (On (InBlock x.0 x.1 n [])) x.2.2 refl)
goes_stand versions (InBlock pin v n ops) (Run op) done said o x = (Block, refl, stands Block o (On (InBlock pin v n (ops ++ op ∷ []))) x.2 refl)
goes_stand versions (InBlock pin v n ops) Commit done said o x = (Free, refl, commits_stand versions ops n pin done said o x)
goes_stand versions (InBlock pin v n ops) Abandon done said o x = (Free, refl, stands Free o (On Nothing) x.2 refl)
goes_stand versions Nothing Pin done said o (inl x) = (Holding, refl, stands Holding o (Stop 2) x.2 tt)
goes_stand versions Nothing Pin done said o (inr x) = (Holding, refl, stands Holding o (On (OnPin x.0 x.1)) x.2.2 refl)
goes_stand versions Nothing (PinAt w) done said o (inl x) = (Holding, refl, stands Holding o (Stop 2) x.2 tt)
goes_stand versions Nothing (PinAt w) done said o (inr (inl x)) = (Holding, refl, stands Holding o (On (OnPin x.0 x.1)) x.2.2 refl)
goes_stand versions Nothing (PinAt w) done said o (inr (inr (inl x))) = (Holding, refl, stands Holding o (On OffPin) x.1.2 refl)
goes_stand versions Nothing (PinAt w) done said o (inr (inr (inr x))) = (Holding, refl, stands Holding o (On OffPin) x.1.2 refl)
goes_stand versions (OnPin pin v) (Walk limit) done said o x = (Holding, refl, stands Holding o (On (OnPin pin v)) x.2 refl)
goes_stand versions (OnPin pin v) Release done said o x = (Free, refl, stands Free o (On Nothing) x.2 refl)
goes_stand versions OffPin (Walk limit) done said o x = (Holding, refl, stands Holding o (On OffPin) x.2 refl)
goes_stand versions OffPin Release done said o x = (Free, refl, stands Free o (On Nothing) x.2 refl)
goes_stand versions (InBlock pin v n ops) Collect done said o x = absurd x
goes_stand versions Nothing Collect done said o (inl x) = (Free, refl, stands Free o (Stop 1) x.2 tt)
goes_stand versions Nothing Collect done said o (inr x) = (Free, refl, stands Free o (On Nothing) x.1.2 refl)
goes_stand versions (OnPin pin v) Collect done said o (inl x) = (Holding, refl, stands Holding o (Stop 1) x.2 tt)
goes_stand versions (OnPin pin v) Collect done said o (inr x) = (Holding, refl, stands Holding o (On (OnPin pin v)) x.1.2 refl)
goes_stand versions OffPin Collect done said o (inl x) = (Holding, refl, stands Holding o (Stop 1) x.2 tt)
goes_stand versions OffPin Collect done said o (inr x) = (Holding, refl, stands Holding o (On OffPin) x.1.2 refl)
goes_stand versions held step done said o x = absurd x

-- the lines behind a line that goes on are in their places
pub placed_behind : (versions : ℕ → Design) (held : Held) (step : Step) (done : List Exchange) (said : List Word) (next : Held) (left : List Step)
    → Goes versions held step done said (On next) → ArePlaced (place_of held) (step ∷ left) → ArePlaced (place_of next) left
placed_behind versions held step done said next left goes placed =
    let fits = goes_stand versions held step done said (On next) goes in
    let same : Some placed.0 ≡ Some fits.0 = sym placed.1 ∙ fits.1 in
    let at : placed.0 ≡ fits.0 = cc (same) in
    subst (λ (p : Place). ArePlaced p left) (at ∙ sym fits.2) placed.2

-- ---- an end from each place

-- a session of the lines from what is held
abbrev pub CanEnd : (ℕ → Design) → Held → List Step → Type 0
CanEnd versions held left = (rest : List Exchange) × (words : List Word) × (ending : Ending) × Runs versions held left rest words ending

-- a line that does and says nothing that matters leads to what is held then
on : (versions : ℕ → Design) (held next : Held) (step : Step) (left : List Step) (first : List Exchange) (words : List Word)
    → Goes versions held step first words (On next) → CanEnd versions next left → CanEnd versions held (step ∷ left)
on versions held next step left first words goes c =
    (first ++ c.0, words ++ c.1, c.2, inr (next, first, c.0, words, c.1, refl, refl, goes, c.3))

-- a line that the log was full for
full : (versions : ℕ → Design) (held : Held) (step : Step) (left : List Step) (done : List Exchange) (places : ℕ)
    → Goes versions held step done (LogFull ∷ []) (Stop places) → CanEnd versions held (step ∷ left)
full versions held step left done places goes = (done, LogFull ∷ [], Full places, inl (places, goes, refl))

pub commit_full : (versions : ℕ → Design) (ops : List Op) (retries pin : ℕ) → Commits versions ops retries pin (release pin ∷ []) (LogFull ∷ []) (Stop 1)
commit_full versions ops zero pin = inl (refl, refl, refl)
commit_full versions ops (suc n) pin = inl (refl, refl, refl)

no_place : (A : Type 0) (place : Place) → None ≡ Some place → A
no_place A place e = absurd (cc (e))

next_place : (place next : Place) (left : List Step) → Some place ≡ Some next → ArePlaced next left → ArePlaced place left
next_place place next left e placed = let same : place ≡ next = cc (e) in subst (λ (p : Place). ArePlaced p left) (sym same) placed

pub can_end : (versions : ℕ → Design) (held : Held) (left : List Step) → ArePlaced (place_of held) left → CanEnd versions held left
can_end versions held [] p = (last_release held, [], Whole, (refl, refl, refl))
can_end versions Nothing (Begin n ∷ left) p = full versions Nothing (Begin n) left [] 2 (inl (refl, refl, refl))
can_end versions Nothing (Pin ∷ left) p = full versions Nothing Pin left [] 2 (inl (refl, refl, refl))
can_end versions Nothing (PinAt w ∷ left) p = full versions Nothing (PinAt w) left [] 2 (inl (refl, refl, refl))
can_end versions Nothing (Collect ∷ left) p = full versions Nothing Collect left [] 1 (inl (refl, refl, refl))
can_end versions (OnPin pin v) (Walk limit ∷ left) p =
    on versions (OnPin pin v) (OnPin pin v) (Walk limit) left [] _ (refl, refl, refl) (can_end versions (OnPin pin v) left (next_place Holding p.0 left p.1 p.2))
can_end versions (OnPin pin v) (Release ∷ left) p =
    on versions (OnPin pin v) Nothing Release left (release pin ∷ []) _ (refl, refl, refl) (can_end versions Nothing left (next_place Free p.0 left p.1 p.2))
can_end versions (OnPin pin v) (Collect ∷ left) p = full versions (OnPin pin v) Collect left (release pin ∷ []) 1 (inl (refl, refl, refl))
can_end versions OffPin (Walk limit ∷ left) p =
    on versions OffPin OffPin (Walk limit) left [] _ (refl, refl, refl) (can_end versions OffPin left (next_place Holding p.0 left p.1 p.2))
can_end versions OffPin (Release ∷ left) p =
    on versions OffPin Nothing Release left [] _ (refl, refl, refl) (can_end versions Nothing left (next_place Free p.0 left p.1 p.2))
can_end versions OffPin (Collect ∷ left) p = full versions OffPin Collect left [] 1 (inl (refl, refl, refl))
can_end versions (InBlock pin v n ops) (Run op ∷ left) p =
    on versions (InBlock pin v n ops) (InBlock pin v n (ops ++ op ∷ [])) (Run op) left [] _ (refl, refl, refl)
    (can_end versions (InBlock pin v n (ops ++ op ∷ [])) left (next_place Block p.0 left p.1 p.2))
can_end versions (InBlock pin v n ops) (Commit ∷ left) p = full versions (InBlock pin v n ops) Commit left (release pin ∷ []) 1 (commit_full versions ops n pin)
can_end versions (InBlock pin v n ops) (Abandon ∷ left) p =
    on versions (InBlock pin v n ops) Nothing Abandon left (release pin ∷ []) _ (refl, refl, refl) (can_end versions Nothing left (next_place Free p.0 left p.1 p.2))
can_end versions held (step ∷ left) p = no_place (CanEnd versions held (step ∷ left)) p.0 p.1

-- a line that begins with these calls, and the lines behind it
pub begun_can_end : (versions : ℕ → Design) (held : Held) (step : Step) (left : List Step) (done rest : List Exchange) (words : List Word) (outcome : Outcome)
    → ArePlaced (place_of held) (step ∷ left) → Goes versions held step (done ++ rest) words outcome
    → (others : List Exchange) × (said : List Word) × (ending : Ending) × Runs versions held (step ∷ left) (done ++ others) said ending
begun_can_end versions held step left done rest words (Stop places) placed goes = (rest, words, Full places, inl (places, goes, refl))
begun_can_end versions held step left done rest words (On next) placed goes =
    let c = can_end versions next left (placed_behind versions held step (done ++ rest) words next left goes placed) in
    (rest ++ c.0, words ++ c.1, c.2, inr (next, done ++ rest, c.0, words, c.1, sym (append_assoc done rest c.0), refl, goes, c.3))
