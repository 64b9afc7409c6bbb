-- How a session ends whose caller makes no more calls.
use Rattle.std.proofs.Common.{◌≡◌, ◌∙◌, ℕ, List, [], ◌∷◌, ◌++◌, inl, inr, refl, ap}
use Rattle.netlist_schema.specs.Design.{Design}
use Rattle.edit_spec.specs.declared.ops.Op.{Op}
use Rattle.db_spec.specs.declared.event.Call.TheVariants as call
use Rattle.db_spec.specs.declared.event.Answer.TheVariants as answer
use Rattle.script_spec.specs.Session.{Ending, Exchange, Full, Goes, Held, InBlock, LogFull, Nothing, OffPin, OnPin, Refused, Stop, Told, Whole, Word, release}
use Rattle.script_spec.specs.declared.script.Step.{Step}
use Rattle.script_spec.specs.declared.script.Step.TheVariants as step
use Rattle.history_check_spec.specs.Left.{Again, AreLoud, Between, EndsBy, NoEnd, Over, Owes, OwesAgain}
use Rattle.history_check_spec.proofs.Committing.{commits_by}
use Rattle.history_check_spec.proofs.Lines.{Line, from_line, refused_is, to_line}

pub free_whole : (versions : ℕ → Design) → EndsBy versions (Between Nothing) [] [] Whole
free_whole versions = record { on = (refl, refl, refl); back = λ said last x. (x.1, x.2) }

pub off_whole : (versions : ℕ → Design) → EndsBy versions (Between OffPin) [] [] Whole
off_whole versions = record { on = (refl, refl, refl); back = λ said last x. (x.1, x.2) }

pub over_ends : (versions : ℕ → Design) (places : ℕ) (lines : List Step) → EndsBy versions (Over places) lines [] (Full places)
over_ends versions places lines = record { on = (refl, refl, refl); back = λ said last x. (x.1, x.2) }

-- no exchange comes first
no_first : (e : Exchange) (first others rest : List Exchange) → [] ≡ first ++ others → first ≡ e ∷ rest → ⊥
no_first e first others rest calls is =
    let none : [] ≡ e ∷ (rest ++ others) = calls ∙ ap (λ (z : List Exchange). z ++ others) is in cc (none)

pub again_full : (versions : ℕ → Design) (retries : ℕ) (ops : List Op) (lines : List Step) → EndsBy versions (Again retries ops) lines (LogFull ∷ []) (Full 2)
again_full versions retries ops lines = record {
  on = inl (refl, refl, refl);
  back = λ said last x. elim x [
    | inl y ↦ (y.1, y.2)
    | inr y ↦ let none : [] ≡ Told call.Pin (answer.Pinned y.0 y.1) ∷ y.2 = y.4 in absurd (cc (none))
  ];
}

-- a line whose call is refused
full_by : (versions : ℕ → Design) (held : Held) (s : Step) (places : ℕ) (lines : List Step) → Goes versions held s [] (LogFull ∷ []) (Stop places)
    → ((said : List Word) (last : Ending) → (l : Line versions held s lines [] said last) → Refused [] places l.first l.words l.outcome) → EndsBy versions (Between held) (s ∷ lines) (LogFull ∷ []) (Full places)
full_by versions held s places lines goes only = record {
  on = from_line versions held s lines [] [] (LogFull ∷ []) [] (Stop places) (Full places) goes (refl, refl, refl);
  back = λ said last x.
      let l = to_line versions held s lines [] said last x in
      let is = refused_is versions lines [] places l.first l.others l.words l.more l.outcome last (only said last l) l.follows in
      (l.says ∙ is.1, is.2);
}

pub begin_full : (versions : ℕ → Design) (retries : ℕ) (lines : List Step) → EndsBy versions (Between Nothing) (step.Begin retries ∷ lines) (LogFull ∷ []) (Full 2)
begin_full versions retries lines = full_by versions Nothing (step.Begin retries) 2 lines (inl (refl, refl, refl)) (λ said last l. elim l.goes [
  | inl x ↦ x
  | inr x ↦ absurd (no_first _ l.first l.others [] l.calls x.2.0)
])

pub pin_full : (versions : ℕ → Design) (lines : List Step) → EndsBy versions (Between Nothing) (step.Pin ∷ lines) (LogFull ∷ []) (Full 2)
pin_full versions lines = full_by versions Nothing step.Pin 2 lines (inl (refl, refl, refl)) (λ said last l. elim l.goes [
  | inl x ↦ x
  | inr x ↦ absurd (no_first _ l.first l.others [] l.calls x.2.0)
])

pub pin_at_full : (versions : ℕ → Design) (wanted : ℕ) (lines : List Step) → EndsBy versions (Between Nothing) (step.PinAt wanted ∷ lines) (LogFull ∷ []) (Full 2)
pin_at_full versions wanted lines = full_by versions Nothing (step.PinAt wanted) 2 lines (inl (refl, refl, refl)) (λ said last l. elim l.goes [
  | inl x ↦ x
  | inr (inl x) ↦ absurd (no_first _ l.first l.others [] l.calls x.2.0)
  | inr (inr (inl x)) ↦ absurd (no_first _ l.first l.others [] l.calls x.1.0)
  | inr (inr (inr x)) ↦ absurd (no_first _ l.first l.others [] l.calls x.1.0)
])

pub free_collect_full : (versions : ℕ → Design) (lines : List Step) → EndsBy versions (Between Nothing) (step.Collect ∷ lines) (LogFull ∷ []) (Full 1)
free_collect_full versions lines = full_by versions Nothing step.Collect 1 lines (inl (refl, refl, refl)) (λ said last l. elim l.goes [
  | inl x ↦ x
  | inr x ↦ absurd (no_first _ l.first l.others [] l.calls x.1.0)
])

pub off_collect_full : (versions : ℕ → Design) (lines : List Step) → EndsBy versions (Between OffPin) (step.Collect ∷ lines) (LogFull ∷ []) (Full 1)
off_collect_full versions lines = full_by versions OffPin step.Collect 1 lines (inl (refl, refl, refl)) (λ said last l. elim l.goes [
  | inl x ↦ x
  | inr x ↦ absurd (no_first _ l.first l.others [] l.calls x.1.0)
])

-- ---- where a pin is held, or a call is owed

pub owes_never : (versions : ℕ → Design) (pin : ℕ) (lines : List Step) → NoEnd versions (Owes pin) lines
owes_never versions pin lines said last x = let none : [] ≡ release pin ∷ x.0 = x.1 in cc (none)

pub owes_again_never : (versions : ℕ → Design) (pin retries : ℕ) (ops : List Op) (lines : List Step) → NoEnd versions (OwesAgain pin retries ops) lines
owes_again_never versions pin retries ops lines said last x = let none : [] ≡ release pin ∷ x.0 = x.1 in cc (none)

pub pin_never : (versions : ℕ → Design) (pin v : ℕ) (lines : List Step) → AreLoud (Between (OnPin pin v)) lines → NoEnd versions (Between (OnPin pin v)) lines
pin_never versions pin v [] loud said last x = let none : [] ≡ release pin ∷ [] = x.0 in cc (none)
pin_never versions pin v (step.Walk limit ∷ lines) loud said last x = absurd loud
pin_never versions pin v (step.Release ∷ lines) loud said last x =
    let l = to_line versions (OnPin pin v) step.Release lines [] said last x in no_first _ l.first l.others [] l.calls l.goes.0
pin_never versions pin v (step.Collect ∷ lines) loud said last x =
    let l = to_line versions (OnPin pin v) step.Collect lines [] said last x in
    elim l.goes [
      | inl y ↦ no_first _ l.first l.others [] l.calls y.0
      | inr y ↦ no_first _ l.first l.others [] l.calls y.1.0
    ]
pin_never versions pin v (s ∷ lines) loud said last x = absurd (to_line versions (OnPin pin v) s lines [] said last x).goes

pub block_never : (versions : ℕ → Design) (pin v retries : ℕ) (ops : List Op) (lines : List Step) → AreLoud (Between (InBlock pin v retries ops)) lines → NoEnd versions (Between (InBlock pin v retries ops)) lines
block_never versions pin v retries ops [] loud said last x = let none : [] ≡ release pin ∷ [] = x.0 in cc (none)
block_never versions pin v retries ops (step.Run op ∷ lines) loud said last x = absurd loud
block_never versions pin v retries ops (step.Abandon ∷ lines) loud said last x =
    let l = to_line versions (InBlock pin v retries ops) step.Abandon lines [] said last x in no_first _ l.first l.others [] l.calls l.goes.0
block_never versions pin v retries ops (step.Commit ∷ lines) loud said last x =
    let l = to_line versions (InBlock pin v retries ops) step.Commit lines [] said last x in
    elim (commits_by versions ops retries pin l.first l.words l.outcome l.goes) [
      | inl y ↦ no_first _ l.first l.others [] l.calls y.0
      | inr (inl y) ↦ no_first _ l.first l.others (release pin ∷ []) l.calls y.2.0
      | inr (inr y) ↦ no_first _ l.first l.others y.2 l.calls y.3
    ]
block_never versions pin v retries ops (s ∷ lines) loud said last x = absurd (to_line versions (InBlock pin v retries ops) s lines [] said last x).goes

-- lines that can't stand where nothing is held
pub free_never : (versions : ℕ → Design) (s : Step) (lines : List Step) → ((done : List Exchange) (said : List Word) (o : _) → Goes versions Nothing s done said o → ⊥) → NoEnd versions (Between Nothing) (s ∷ lines)
free_never versions s lines none said last x = let l = to_line versions Nothing s lines [] said last x in none l.first l.words l.outcome l.goes

pub off_never : (versions : ℕ → Design) (s : Step) (lines : List Step) → ((done : List Exchange) (said : List Word) (o : _) → Goes versions OffPin s done said o → ⊥) → NoEnd versions (Between OffPin) (s ∷ lines)
off_never versions s lines none said last x = let l = to_line versions OffPin s lines [] said last x in none l.first l.words l.outcome l.goes
