use Rattle.std.proofs.Common.{◌≡◌, ◌≤◌, List, ap, sym, subst, ◌∙◌, length}
use Rattle.std.specs.List.{count_by, sum_by}
use Rattle.db_spec.specs.declared.event.Event.{Event}
use Rattle.gen_spec.specs.Summary.{dropped_by, is_accepted}
use Rattle.gen_run.proofs.Told.{is_told}
use Rattle.gen_run.proofs.tell.tell.Goals as goal

pub commits_in-commits-requires : goal.commits_in-commits-requires
commits_in-commits-requires c = subst (λ (events : List Event). length events ≤ 4194304) (sym c.log-log.ensures.events) c.log-log.ensures.short

pub dropped_in-collected-requires : goal.dropped_in-collected-requires
dropped_in-collected-requires c = subst (λ (events : List Event). length events ≤ 4194304) (sym c.log-log.ensures.events) c.log-log.ensures.short

pub returns : goal.returns
returns c =
    let log : c.log-log.result.now ≡ c.end-core.result.events = c.log-log.ensures.events in
    is_told c.args.count c.in_ok-made.made.count c.in_ok-made.made.core c.end-core.result.events c.in_ok-made.made.first c.in_ok-made.made.last
    c.commits_in-commits.result c.dropped_in-collected.result _ c.in_ok-first.first c.in_ok-last.last c.in_ok-made.ensures.count c.in_ok-made.ensures.run c.end-core.ensures
    (c.commits_in-commits.ensures ∙ ap (λ (events : List Event). count_by (λ event. is_accepted event.answer) events) log)
    (c.dropped_in-collected.ensures ∙ ap (λ (events : List Event). sum_by (λ event. dropped_by event.answer) events) log)
    (ap (λ (events : List Event). length events) log)
    c.in_ok-first.ensures c.in_ok-last.ensures
