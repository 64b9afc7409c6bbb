-- The line at a place of a script, and walks.
use Rattle.std.proofs.Common.{◌≡◌, ◌∙◌, ℕ, ◌+◌, ◌<◌, List, [], ◌∷◌, Option, None, length, drop, get_or, inl, inr, ap, sym, subst, arith}
use Rattle.std.specs.Option.{option_map_or}
use Rattle.std.proofs.lemmas.List.{drop_more}
use Rattle.std.proofs.lemmas.Option.{slice_get-get_or}
use Rattle.netlist_schema.specs.Design.{Design}
use Rattle.script_spec.specs.Headline.{CanWalk, IsWalk}
use Rattle.script_spec.specs.ScriptText.{steps_of}
use Rattle.script_spec.specs.declared.script.ScriptLine.{ScriptLine}
use Rattle.script_spec.specs.declared.script.Step.{Step}
use Rattle.script_spec.specs.declared.script.Step.TheVariants.{Collect, Walk}
use Rattle.edit_tx.specs.Facts.{PinFacts}
use Rattle.db_spec.specs.History.{state_after}
use Rattle.db_spec.specs.State.{State, opening}
use Rattle.db_spec.proofs.Histories.{goes_on_from}
use Rattle.db_spec.proofs.Versions.{follows_after, grown_on}
use Rattle.db_share.specs.Passes.{Shared, Pass}
use Rattle.script_held.specs.declared.held.Held.TheVariants.{OnPin}
use Rattle.script_run.specs.Coming.{step_at}
use Rattle.script_run.specs.Holding.{Stands}
use Rattle.script_run.proofs.HeldLines.{held_is_there}

-- ---- the line at a place of the script

pub step_there : (lines : List ScriptLine) (at : ℕ) (line : ScriptLine) → at < length lines → line ≡ get_or lines at line → step_at lines at ≡ line.step
step_there lines at line low is =
    ap (λ (found : Option ScriptLine). option_map_or (λ (l : ScriptLine). l.step) found Collect) (slice_get-get_or lines at line low) ∙ ap (λ (l : ScriptLine). l.step) (sym is)

-- the lines from there on: that line, and those behind it
pub left_at : (lines : List ScriptLine) (at : ℕ) (line : ScriptLine) → at < length lines → line ≡ get_or lines at line → steps_of (drop at lines) ≡ step_at lines at ∷ steps_of (drop (at + 1) lines)
left_at lines at line low is =
    ap steps_of (drop_more lines at line low)
    ∙ ap (λ (s : Step). s ∷ steps_of (drop (at + 1) lines)) (ap (λ (l : ScriptLine). l.step) (sym is) ∙ sym (step_there lines at line low is))

-- ---- walks

pub walks_here : (d : Design) (step : Step) (left : List Step) → CanWalk d ((step ∷ left) ∷ []) → IsWalk step → (d.top ≡ None) → ⊥
walks_here d step left can walk none = can (inl (inl walk)) none

pub walks_later : (d : Design) (step : Step) (left : List Step) → CanWalk d ((step ∷ left) ∷ []) → CanWalk d (left ∷ [])
walks_later d step left can (inl later) none = can (inl (inr later)) none
walks_later d step left can (inr never) none = absurd never

-- the top of a pinned version is that of the opening design
pub pinned_top : (db : Shared) (pass : Pass) (pin : PinFacts) → Stands db pass (OnPin pin) → pin.design.top ≡ db.base.top
pinned_top db pass pin s =
    let d : Design = db.base in
    let state : State = state_after d pass.seen in
    let le = held_is_there db pass (OnPin pin) pin.number pin.version s s.holds in
    let grown = grown_on state (follows_after d pass.seen) 0 pin.version pin.version (omega arith) le in
    let first : state.first ≡ d = (goes_on_from (opening d) pass.seen).first in
    ap (λ (e : Design). e.top) s.mine.is_pin.design ∙ sym grown.top ∙ ap (λ (e : Design). e.top) first

pub can_walk : (db : Shared) (pass : Pass) (pin : PinFacts) (step : Step) (limit : Option ℕ) → Stands db pass (OnPin pin) → step ≡ Walk limit → (IsWalk step → (db.base.top ≡ None) → ⊥) → (pin.design.top ≡ None) → ⊥
can_walk db pass pin step limit s is top none = top (subst IsWalk (sym is) tt) (sym (pinned_top db pass pin s) ∙ none)
