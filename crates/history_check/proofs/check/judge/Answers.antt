use Rattle.std.proofs.Common.{◌≡◌, ◌∙◌, ap, length, refl, subst, sym, List, ℕ}
use Rattle.std.specs.Prelude.{◌↔◌, IsTrue}
use Rattle.netlist_schema.specs.Design.{Design}
use Rattle.db_version.specs.Shot.{Shot}
use Rattle.report_parts.specs.Parts.{rest_text}
use Rattle.script_run_spec.specs.Scripts.{all_steps}
use Rattle.history_check.specs.Follow.{AllEnd}
use Rattle.history_check.proofs.Wholes.{whole_same}
use Rattle.report_parts.proofs.Comparing.{if_ok_on}
use Rattle.history_check.proofs.Seating.{compared, ends_of, known_steps, never_of, never_prints_so, place_here, steps_many}
use Rattle.history_check.proofs.check.judge.Goals as goal

pub finish_all-requires-clause-many : goal.finish_all-requires-clause-many
finish_all-requires-clause-many c = c.args.seats.ok.0 ∙ c.requires.stands.many ∙ steps_many c.args.scripts.now

pub finish_all-requires-clause-lines : goal.finish_all-requires-clause-lines
finish_all-requires-clause-lines c = λ k d less.
    place_here c.args.core.now (all_steps c.args.scripts.now) c.args.seats.items c.requires.stands c.log-events.ensures.history.legal c.requires.top k d (known_steps c.args.scripts.now k less)

pub returns-in-Some : goal.returns-in-Some
returns-in-Some c =
    let core = c.args.core.now in
    let legal = c.log-events.ensures.history.legal in
    let ends = ends_of (λ t. t.items) core (all_steps c.args.scripts.now) c.args.most c.in_ok-texts.field-0 c.in-Some.texts c.in-Some.is
    (c.in_ok-texts.ensures core c.requires.stands (ap length c.log-events.ensures.events) legal) in
    let here = subst (λ (z : List (List ℕ)). AllEnd core 0 (all_steps c.args.scripts.now) z) (sym c.as_slice.ensures.value) ends in
    if_ok_on c.is_rest.result _ _ (λ same iff report short behind only.
    compared c.one_report.ensures core core.opening (all_steps c.args.scripts.now) c.as_slice.result.now report refl legal c.requires.stands.callers here only same
    (whole_same core c.as_slice.result.now report c.args.rest.now same behind
    (subst (λ (d : Design). IsTrue same ↔ (c.args.rest.now ≡ rest_text d c.as_slice.result.now)) (ap (λ (s : Shot). s.design) c.head.ensures) iff))) c.is_rest.ensures

pub returns-in-None : goal.returns-in-None
returns-in-None c = λ report short behind only.
    let core = c.args.core.now in
    let never = never_of (λ t. t.items) core (all_steps c.args.scripts.now) c.args.most c.in_ok-texts.field-0 c.in-None.is
    (c.in_ok-texts.ensures core c.requires.stands (ap length c.log-events.ensures.events) c.log-events.ensures.history.legal) in
    never_prints_so core (all_steps c.args.scripts.now) report c.args.most short never only
