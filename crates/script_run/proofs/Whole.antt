-- A script, from its first line to its end.
use Rattle.std.proofs.Common.{◌≡◌, ◌∙◌, ℕ, ◌+◌, ◌<◌, Bool, true, false, List, [], ◌∷◌, length, drop, get_or, map, Result, Ok, Err, ap, sym, subst}
use Rattle.db_spec.specs.declared.event.Event.{Event}
use Rattle.netlist_pages.specs.declared.memory.NoMemory.{NoMemory}
use Rattle.script_spec.specs.Headline.{CanWalk, Ran}
use Rattle.script_spec.specs.ScriptText.{ArePlaced, Free, steps_of}
use Rattle.script_spec.specs.Session.{last_release}
use Rattle.script_spec.specs.declared.script.ScriptLine.{ScriptLine}
use Rattle.script_spec.specs.declared.script.Step.{Step}
use Rattle.script_run_spec.specs.Along.{HasCome}
use Rattle.script_run_spec.specs.Calls.{Makes}
use Rattle.script_run_spec.specs.Lines.{place_of}
use Rattle.script_run_spec.specs.Whole.{IsBrokenOff}
use Rattle.script_run_spec.proofs.Along.{comes_further, comes_to_begin}
use Rattle.script_run_spec.proofs.Endings.{comes_to_break, comes_to_end, comes_to_full}
use Rattle.db_share.specs.Passes.{Shared, Pass, IsReady}
use Rattle.db_share.specs.Calls.{GoesOn}
use Rattle.db_share.proofs.Opened.{goes_on_twice}
use Rattle.script_held.specs.Holding.{IsHeldBy, ended_full, held_of, left_held}
use Rattle.script_held.specs.declared.held.Held.{Held}
use Rattle.script_held.specs.declared.held.Held.TheVariants as held
use Rattle.script_held.specs.declared.held.Stop.{Stop}
use Rattle.script_held.specs.declared.held.Stop.TheVariants.{LogFull, NoMemory as StopNoMemory}
use Rattle.script_held.proofs.Calls.{asked, stays}
use Rattle.script_run.specs.Coming.{Comes, Ends, MayStand, step_at}
use Rattle.script_run.proofs.Standing.{left_at, walks_later}

-- before a line: the pass has gone on from where the script began, so far the script has come, and these lines are left
pub record IsAt (db : Shared) (first pass : Pass) (steps : List Step) (text : List ℕ) (h : Held) (left : List Step) : Type 0 where
  pub on : GoesOn db first pass
  pub come : HasCome db.base pass.number steps pass.seen text (held_of h) left
  pub mine : IsHeldBy db pass h
  pub top : CanWalk db.base (left ∷ [])

pub at_first : (db : Shared) (pass : Pass) (steps : List Step) (text : List ℕ) → IsReady db pass → pass.own ≡ [] → ArePlaced Free steps → CanWalk db.base (steps ∷ []) → text ≡ []
    → IsAt db pass pass steps text held.Nothing steps
at_first db pass steps text ready fresh placed top empty = record {
  on = stays db pass ready;
  come = subst (λ (t : List ℕ). HasCome db.base pass.number steps pass.seen t (held_of held.Nothing) steps) (sym empty)
      (comes_to_begin db.base pass.number steps pass.seen ready.history.legal (ap (map asked) (sym ready.own ∙ fresh)) placed);
  mine = tt;
  top = top;
}

pub next_line : (db : Shared) (first pass : Pass) (steps : List Step) (text : List ℕ) (h : Held) (lines : List ScriptLine) (at : ℕ) (line : ScriptLine) → at < length lines → line ≡ get_or lines at line
    → IsAt db first pass steps text h (steps_of (drop at lines)) → IsAt db first pass steps text h (step_at lines at ∷ steps_of (drop (at + 1) lines))
next_line db first pass steps text h lines at line low is a = subst (λ (left : List Step). IsAt db first pass steps text h left) (left_at lines at line low is) a

pub may_stand : (db : Shared) (first pass : Pass) (steps : List Step) (text : List ℕ) (h : Held) (step : Step) (left : List Step) → IsAt db first pass steps text h (step ∷ left) → MayStand (place_of (held_of h)) step
may_stand db first pass steps text h step left a = let placed = a.come.placed in (placed.0, placed.1)

module _ (db : Shared) (first pass new : Pass) (steps : List Step) (text more : List ℕ) (h : Held) (step : Step) (left : List Step) (a : IsAt db first pass steps text h (step ∷ left)) (on : GoesOn db pass new) where
  -- the line was run
  pub goes_at : (next : Held) → Comes db pass new text more (held_of h) step (Ok next) → IsAt db first new steps more next left
  goes_at next g = record {
    on = goes_on_twice db first pass new a.on on;
    come = subst (λ (n : ℕ). HasCome db.base n steps new.seen more (held_of next) left) (sym on.number)
        (comes_further db.base pass.number steps pass.seen new.seen text more (held_of h) (held_of next) step left a.come g.0);
    mine = g.1;
    top = walks_later db.base step left a.top;
  }

  -- or it stopped the script
  pub stops_at : (stop : Stop) → Comes db pass new text more (held_of h) step (Err stop) → Ends db new steps more (Err stop)
  stops_at (LogFull next) f = (
    f.1,
    subst (λ (n : ℕ). (last : List Event) → Makes db.base n new.seen last (last_release (held_of next)) → Ran db.base last n steps more true) (sym on.number)
        (λ last m. comes_to_full db.base pass.number steps pass.seen new.seen last text more (held_of h) (held_of next) step left a.come f.0 m),
  )
  stops_at (StopNoMemory next) k = (
    k.1,
    subst (λ (n : ℕ). (last : List Event) → Makes db.base n new.seen last (last_release (held_of next)) → IsBrokenOff db.base last n steps) (sym on.number)
        (λ last m. comes_to_break db.base pass.number steps pass.seen new.seen last text (held_of h) (held_of next) step left a.come k.0 m),
  )

-- no line is left
pub ends_at : (db : Shared) (first pass : Pass) (steps : List Step) (text : List ℕ) (h : Held) (left : List Step) → left ≡ [] → IsAt db first pass steps text h left → Ends db pass steps text (Ok h)
ends_at db first pass steps text h left none a =
    let come = subst (λ (l : List Step). HasCome db.base pass.number steps pass.seen text (held_of h) l) none a.come in
    (a.mine, λ last m. comes_to_end db.base pass.number steps pass.seen last text (held_of h) come m)

-- what is held is the pass's
pub ends_held : (db : Shared) (pass : Pass) (steps : List Step) (text : List ℕ) (r : Result Held Stop) → Ends db pass steps text r → IsHeldBy db pass (left_held r)
ends_held db pass steps text (Ok h) e = e.0
ends_held db pass steps text (Err (LogFull h)) e = e.0
ends_held db pass steps text (Err (StopNoMemory h)) e = e.0

-- with the release of what was held the script has run, or was broken off
module _ (db : Shared) (pass new : Pass) (steps : List Step) (text : List ℕ) (on : GoesOn db pass new) where
  pub has_run : (r : Result Held Stop) (full : Bool) → ended_full r ≡ Ok full → Ends db pass steps text r → Makes db.base pass.number pass.seen new.seen (last_release (held_of (left_held r)))
      → Ran db.base new.seen new.number steps text full
  has_run (Ok h) full is e m =
      let same : false ≡ full = cc (is) in
      subst (λ (b : Bool). Ran db.base new.seen new.number steps text b) same (subst (λ (n : ℕ). Ran db.base new.seen n steps text false) (sym on.number) (e.1 new.seen m))
  has_run (Err (LogFull h)) full is e m =
      let same : true ≡ full = cc (is) in
      subst (λ (b : Bool). Ran db.base new.seen new.number steps text b) same (subst (λ (n : ℕ). Ran db.base new.seen n steps text true) (sym on.number) (e.1 new.seen m))
  has_run (Err (StopNoMemory h)) full is e m = absurd (cc (is))

  pub is_broken_off : (r : Result Held Stop) (error : NoMemory) → ended_full r ≡ Err error → Ends db pass steps text r → Makes db.base pass.number pass.seen new.seen (last_release (held_of (left_held r)))
      → IsBrokenOff db.base new.seen new.number steps
  is_broken_off (Ok h) error is e m = absurd (cc (is))
  is_broken_off (Err (LogFull h)) error is e m = absurd (cc (is))
  is_broken_off (Err (StopNoMemory h)) error is e m = subst (λ (n : ℕ). IsBrokenOff db.base new.seen n steps) (sym on.number) (e.1 new.seen m)
