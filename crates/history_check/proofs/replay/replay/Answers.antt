use Rattle.std.proofs.Common.{Bor, List, ℕ, length, refl, ap, ◌∙◌}
use Rattle.db_core.specs.Calls.{event_of}
use Rattle.script_spec.specs.Report.{head_design}
use Rattle.script_run_spec.specs.Scripts.{all_steps}
use Rattle.history_check.proofs.Replaying.{behind_one}
use Rattle.history_check.proofs.Seating.{behind_none, behind_some, called_so, heads_none, none_of, none_so, only_of, only_so, other_so, rest_so, shorter_behind, stopped_so}
use Rattle.history_check.proofs.replay.replay.Goals as goal

pub returns-in_default-clause-only : goal.returns-in_default-clause-only
returns-in_default-clause-only c = λ report short of.
    only_of c.args.core.now.opening c.events.core.opening (all_steps c.args.scripts.now) report c.events.core.events c.events.invariant.opening
    (only_so c.events.core c.args.scripts.now report c.events.rest.now c.requires.few (c.events.invariant.rest report of) _ _ (ap length c.log.ensures.events) refl
    (heads_none c.events.rest.now _ _ c.next_caller.result c.in_default.not-Some c.next_caller.ensures))

pub returns-in_default-clause-behind : goal.returns-in_default-clause-behind
returns-in_default-clause-behind c = λ report is. c.events.invariant.behind report is

pub returns-then-not-branch-clause-only : goal.returns-then-not-branch-clause-only
returns-then-not-branch-clause-only c = λ report short of.
    none_of c.args.core.now.opening c.events.core.opening (all_steps c.args.scripts.now) report c.events.invariant.opening
    (none_so c.events.core c.args.scripts.now report c.events.rest.now c.requires.few (c.events.invariant.rest report of) _ _ (ap length c.log.ensures.events) refl c.in-Some.next c.in-Some.ensures
    c.events.seats.items c.args.most c.events.invariant.stands short (stopped_so c.events.core c.call.new.core (all_steps c.args.scripts.now) c.in-Some.next c.args.most c.events.seats.items c.call.new.seats.items c.in_ok-call.field-0 c.if-not-branch.true c.in_ok-call.ensures))

pub returns-in-None-clause-only : goal.returns-in-None-clause-only
returns-in-None-clause-only c = λ report short of.
    let called = called_so c.events.core c.call.new.core (all_steps c.args.scripts.now) c.in-Some.next c.args.most c.events.seats.items c.call.new.seats.items c.in_ok-call.field-0 c.if-not-branch.false c.in_ok-call.ensures in
    none_of c.args.core.now.opening c.call.new.core.opening (all_steps c.args.scripts.now) report (called.adds.opening ∙ c.events.invariant.opening)
    (other_so c.events.core c.args.scripts.now report c.events.rest.now c.requires.few (c.events.invariant.rest report of) _ _ (ap length c.log.ensures.events) refl c.in-Some.next c.in-Some.ensures c.call.new.core c.call.new.seats.items called c.log.ensures.history.legal
    (behind_none (λ (m : Bor (List ℕ)). m.now) c.events.core c.call.new.core (all_steps c.args.scripts.now) c.in-Some.next c.call.new.seats.items called c.events.rest.now c.in_ok-more.field-0 (λ before event is. c.in_ok-more.ensures before event is) c.in-None.is))

pub events-preserved : goal.events-preserved
events-preserved c =
    let called = called_so c.events.core c.call.new.core (all_steps c.args.scripts.now) c.in-Some.next c.args.most c.events.seats.items c.call.new.seats.items c.in_ok-call.field-0 c.if-not-branch.false c.in_ok-call.ensures in
    record {
      stands = called.stand;
      opening = called.adds.opening ∙ c.events.invariant.opening;
      rest = λ report of.
          rest_so c.events.core c.args.scripts.now report c.events.rest.now c.requires.few (c.events.invariant.rest report of) _ _ (ap length c.log.ensures.events) refl c.in-Some.next c.in-Some.ensures c.call.new.core c.call.new.seats.items called c.log.ensures.history.legal c.in-Some-2.more.now
          (behind_some (λ (m : Bor (List ℕ)). m.now) c.events.core c.call.new.core (all_steps c.args.scripts.now) c.in-Some.next c.call.new.seats.items called c.events.rest.now c.in_ok-more.field-0 c.in-Some-2.more (λ before event is. c.in_ok-more.ensures before event is) c.in-Some-2.is);
      behind = λ report is.
          behind_one c.events.core c.call.new.core (event_of c.in-Some.next.caller called.call called.answer) report c.events.rest.now c.in-Some-2.more.now c.log.ensures.history.legal called.adds
          (behind_some (λ (m : Bor (List ℕ)). m.now) c.events.core c.call.new.core (all_steps c.args.scripts.now) c.in-Some.next c.call.new.seats.items called c.events.rest.now c.in_ok-more.field-0 c.in-Some-2.more (λ before event is. c.in_ok-more.ensures before event is) c.in-Some-2.is)
          (c.events.invariant.behind report is);
    }

pub events-smaller : goal.events-smaller
events-smaller c =
    let called = called_so c.events.core c.call.new.core (all_steps c.args.scripts.now) c.in-Some.next c.args.most c.events.seats.items c.call.new.seats.items c.in_ok-call.field-0 c.if-not-branch.false c.in_ok-call.ensures in
    shorter_behind (head_design c.call.new.core.opening c.call.new.core.events) (length c.events.core.events) (event_of c.in-Some.next.caller called.call called.answer) c.events.rest.now c.in-Some-2.more.now
    (behind_some (λ (m : Bor (List ℕ)). m.now) c.events.core c.call.new.core (all_steps c.args.scripts.now) c.in-Some.next c.call.new.seats.items called c.events.rest.now c.in_ok-more.field-0 c.in-Some-2.more (λ before event is. c.in_ok-more.ensures before event is) c.in-Some-2.is)
