use Rattle.std.proofs.Common.{arith, Bor, List, ℕ, subst, sym, ◌∙◌}
use Rattle.script_run_spec.specs.Scripts.{all_steps}
use Rattle.script_spec.specs.Headline.{CanWalk}
use Rattle.report_parts.proofs.Comparing.{if_ok_on}
use Rattle.history_check.proofs.Seating.{begins_here, begins_none, behind_here, only_of, open_here, verdict_of}
use Rattle.history_check.proofs.check.check.Goals as goal

pub returns-in_default : goal.returns-in_default
returns-in_default c =
    begins_none (λ (m : Bor (List ℕ)). m.now) c.args.core.now.opening (all_steps c.args.scripts.now) c.args.report.now c.after.result c.in_default.not-Some c.after.ensures

pub replay-requires-clause-stands : goal.replay-requires-clause-stands
replay-requires-clause-stands c = open_here c.args.core.now c.args.scripts.now c.in_ok-seats.seats.items c.requires.fresh (sym c.in_ok-seats.seats.ok.0 ∙ c.in_ok-seats.ensures.count) c.in_ok-seats.ensures.open

pub judge-requires-clause-stands : goal.judge-requires-clause-stands
judge-requires-clause-stands c = rw c.in-Some-2.is at c.in_ok-rest.ensures.stands

pub judge-requires-clause-top : goal.judge-requires-clause-top
judge-requires-clause-top c =
    let same = rw c.in-Some-2.is at c.in_ok-rest.ensures.opening in
    subst (λ d. CanWalk d (all_steps c.args.scripts.now)) (sym same) c.requires.top

pub returns-in-None : goal.returns-in-None
returns-in-None c =
    let came = c.in_ok-rest.ensures.only c.args.report.now (omega arith) (begins_here c.args.core.now (all_steps c.args.scripts.now) c.args.report.now c.in-Some.events.now c.requires.fresh c.in-Some.ensures) in
    rw c.in-None.is at came

pub returns-in-Some-2 : goal.returns-in-Some-2
returns-in-Some-2 c =
    let first = c.in-Some.events.now in
    let report = c.args.report.now in
    let same = rw c.in-Some-2.is at c.in_ok-rest.ensures.opening in
    let came = c.in_ok-rest.ensures.only report (omega arith) (begins_here c.args.core.now (all_steps c.args.scripts.now) report first c.requires.fresh c.in-Some.ensures) in
    let only = rw c.in-Some-2.is at came in
    let printed = rw c.in-Some-2.is at c.in_ok-rest.ensures.behind in
    let behind = printed report (behind_here c.args.core.now report first c.requires.fresh c.in-Some.ensures) in
    if_ok_on c.judge.result _ _ (λ r yes. verdict_of c.args.core.now.opening c.replay.new.core.opening (all_steps c.args.scripts.now) report r same
    (yes report (omega arith) behind (only_of c.replay.new.core.opening c.args.core.now.opening (all_steps c.args.scripts.now) report c.replay.new.core.events (sym same) only))) c.judge.ensures
