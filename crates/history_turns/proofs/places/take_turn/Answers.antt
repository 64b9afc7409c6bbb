use Rattle.std.proofs.Common.{◌≡◌, ◌≤◌, ◌<◌, ℕ, List, length, inl, inr, refl, arith}
use Rattle.std.proofs.lemmas.List.{length-map}
use Rattle.script_spec.specs.ScriptText.{steps_of}
use Rattle.script_spec.specs.declared.script.ScriptLine.{ScriptLine}
use Rattle.history_turns.proofs.Quieting.{line_at, too_much_there}
use Rattle.history_turns.proofs.Turning.{comes_at_end, none_line, turned_line, loud_here, none_left, none_there, still_at, turned_there}
use Rattle.history_turns.proofs.places.take_turn.Goals as goal

pub returns-in_default : goal.returns-in_default
returns-in_default c =
    inr (too_much_there _ c.in_ok-at.field-0 c.in_default.not-Some c.in_ok-at.ensures c.args.core.now c.args.asked.caller c.history_is_legal.ensures.history.legal c.requires.at)

pub owed_call-requires-clause-at : goal.owed_call-requires-clause-at
owed_call-requires-clause-at c =
    let passed = rw c.in-Some.is at c.in_ok-at.ensures in
    still_at c.args.core.now c.args.asked.caller (steps_of c.args.lines.now) c.args.seat c.history_is_legal.ensures.history.legal c.requires.at c.pass_quiet.new.said.items c.in-Some.at c.in-Some.line passed c.args.asked.release

pub end_call-requires-clause-at : goal.end_call-requires-clause-at
end_call-requires-clause-at c =
    let passed = rw c.in-Some.is at c.in_ok-at.ensures in
    still_at c.args.core.now c.args.asked.caller (steps_of c.args.lines.now) c.args.seat c.history_is_legal.ensures.history.legal c.requires.at c.pass_quiet.new.said.items c.in-Some.at c.in-Some.line passed c.args.asked.release

pub step_call-requires-clause-at : goal.step_call-requires-clause-at
step_call-requires-clause-at c =
    let passed = rw c.in-Some.is at c.in_ok-at.ensures in
    still_at c.args.core.now c.args.asked.caller (steps_of c.args.lines.now) c.args.seat c.history_is_legal.ensures.history.legal c.requires.at c.pass_quiet.new.said.items c.in-Some.at c.in-Some.line passed c.args.asked.release

pub returns-in_default-2 : goal.returns-in_default-2
returns-in_default-2 c =
    let passed = rw c.in-Some.is at c.in_ok-at.ensures in
    inl (
    none_there c.args.core.now c.args.asked.caller (steps_of c.args.lines.now) c.args.seat c.history_is_legal.ensures.history.legal c.requires.at c.pass_quiet.new.said.items c.in-Some.at c.in-Some.line passed c.args.asked.release
    c.owed_call.new.core c.owed_call.new.said.items c.in_ok-at-2.field-0 c.in_default-2.not-Some (c.in_ok-at-2.ensures c.args.asked.release _))

pub returns-then-not-is_between : goal.returns-then-not-is_between
returns-then-not-is_between c =
    let passed = rw c.in-Some.is at c.in_ok-at.ensures in
    turned_there c.args.core.now c.args.asked.caller (steps_of c.args.lines.now) c.args.seat c.history_is_legal.ensures.history.legal c.requires.at c.pass_quiet.new.said.items c.in-Some.at c.in-Some.line passed c.args.asked.release
    c.owed_call.new.core _ refl (rw c.in-Some-2.is at c.in_ok-at-2.ensures c.args.asked.release _)

pub returns-in_default-end_call : goal.returns-in_default-end_call
returns-in_default-end_call c =
    let passed = rw c.in-Some.is at c.in_ok-at.ensures in
    inl (
    none_there c.args.core.now c.args.asked.caller (steps_of c.args.lines.now) c.args.seat c.history_is_legal.ensures.history.legal c.requires.at c.pass_quiet.new.said.items c.in-Some.at c.in-Some.line passed c.args.asked.release c.end_call.new.core c.pass_quiet.new.said.items c.end_call.result c.in_default-end_call.not-Some
    (comes_at_end c.args.core.now c.end_call.new.core c.args.asked.caller c.args.asked.release _ _ c.pass_quiet.new.said.items c.pass_quiet.new.said.items c.end_call.result (none_left c.args.lines.now c.in-Some.line c.if-line-lines.true)
    (c.end_call.ensures c.args.asked.release c.pass_quiet.new.said.items)))

pub returns-then-line-lines : goal.returns-then-line-lines
returns-then-line-lines c =
    let passed = rw c.in-Some.is at c.in_ok-at.ensures in
    turned_there c.args.core.now c.args.asked.caller (steps_of c.args.lines.now) c.args.seat c.history_is_legal.ensures.history.legal c.requires.at c.pass_quiet.new.said.items c.in-Some.at c.in-Some.line passed c.args.asked.release c.end_call.new.core _ refl
    (rw c.in-Some-end_call.is at (comes_at_end c.args.core.now c.end_call.new.core c.args.asked.caller c.args.asked.release _ _ c.pass_quiet.new.said.items c.pass_quiet.new.said.items c.end_call.result (none_left c.args.lines.now c.in-Some.line c.if-line-lines.true)
    (c.end_call.ensures c.args.asked.release c.pass_quiet.new.said.items)))

-- the line is there
less_here : (k n m : ℕ) → (k ≡ n → ⊥) → k ≤ m → m ≡ n → k < n
less_here k n m other le is = omega (arith, other, le, is)

less_steps : (lines : List ScriptLine) (k : ℕ) → k < length lines → k < length (steps_of lines)
less_steps lines k less = let long = length-map lines (λ (l : ScriptLine). l.step) in omega (arith, less, long)

here_less : (lines : List ScriptLine) (k : ℕ) → (k ≡ length lines → ⊥) → k ≤ length (steps_of lines) → k < length lines
here_less lines k other le = let long = length-map lines (λ (l : ScriptLine). l.step) in less_here k (length lines) (length (steps_of lines)) other le long

pub step_call-requires-clause-loud : goal.step_call-requires-clause-loud
step_call-requires-clause-loud c =
    let passed = rw c.in-Some.is at c.in_ok-at.ensures in
    let less = here_less c.args.lines.now c.in-Some.line c.if-line-lines.false passed.within in
    loud_here c.args.core.now c.args.asked.caller (steps_of c.args.lines.now) c.args.seat c.history_is_legal.ensures.history.legal c.requires.at c.pass_quiet.new.said.items c.in-Some.at c.in-Some.line passed c.args.asked.release _ (less_steps c.args.lines.now c.in-Some.line less) (line_at c.args.lines.now c.in-Some.line c.index-lines-line.result less)

pub returns-in_default-3 : goal.returns-in_default-3
returns-in_default-3 c =
    let passed = rw c.in-Some.is at c.in_ok-at.ensures in
    let less = here_less c.args.lines.now c.in-Some.line c.if-line-lines.false passed.within in
    inl (
    none_line c.args.core.now c.args.asked.caller (steps_of c.args.lines.now) c.args.seat c.history_is_legal.ensures.history.legal c.requires.at c.pass_quiet.new.said.items c.in-Some.at c.in-Some.line passed c.args.asked.release _ (less_steps c.args.lines.now c.in-Some.line less) (line_at c.args.lines.now c.in-Some.line c.index-lines-line.result less)
    c.step_call.new.core c.step_call.new.said.items c.in_ok-at-3.field-0 c.in_default-3.not-Some c.in_ok-at-3.ensures)

pub returns : goal.returns
returns c =
    let passed = rw c.in-Some.is at c.in_ok-at.ensures in
    let less = here_less c.args.lines.now c.in-Some.line c.if-line-lines.false passed.within in
    turned_line c.args.core.now c.args.asked.caller (steps_of c.args.lines.now) c.args.seat c.history_is_legal.ensures.history.legal c.requires.at c.pass_quiet.new.said.items c.in-Some.at c.in-Some.line passed c.args.asked.release _ (less_steps c.args.lines.now c.in-Some.line less) (line_at c.args.lines.now c.in-Some.line c.index-lines-line.result less)
    c.step_call.new.core _ (c.behind-line.ensures.left (steps_of c.args.lines.now) _ (line_at c.args.lines.now c.in-Some.line c.index-lines-line.result less)) (c.behind-line.ensures.within (length (steps_of c.args.lines.now)) (less_steps c.args.lines.now c.in-Some.line less))
    (rw c.in-Some-3.is at c.in_ok-at-3.ensures)
