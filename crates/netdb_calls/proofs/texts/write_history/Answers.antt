use Rattle.std.proofs.Common.{◌∙◌, List, [], OnErr, OnOk, subst, sym}
use Rattle.db_spec.specs.declared.event.Event.{Event}
use Rattle.db_version.specs.Shot.{Shot}
use Rattle.netdb_outside.specs.Outside.{Appends, AppendsFront}
use Rattle.script_run_spec.specs.Written.{written_report}
use Rattle.netdb_calls.specs.Texts.{WritesText, head_design}
use Rattle.call_status.specs.declared.status.Status.{Status}
use Rattle.netdb_calls.proofs.Writing.{fault_written, written}
use Rattle.netdb_calls.proofs.texts.write_history.Goals as goal

pub returns-clause-wrote : goal.returns-clause-wrote
returns-clause-wrote g c =
    let d = c.args.desk.now in
    let old = g.K.Sink.written c.args.out.now in
    let new = g.K.Sink.written c.write_report.new.out in
    let text = written_report (head_design d) d.story.events [] in
    let Ok : Shot → List Event → Type 0 = λ shot events. OnOk c.write_report.result (Appends old new (written_report shot.design events [])) in
    let Err : Shot → List Event → Type 0 = λ shot events. OnErr c.write_report.result (AppendsFront old new (written_report shot.design events [])) in
    subst (λ (s : Status). WritesText text old new s) (sym c.of_write.ensures)
    (written text old new c.write_report.result
    (subst (λ (shot : Shot). Ok shot d.story.events) c.head.ensures (subst (λ (events : List Event). Ok c.head.result.now events) c.log.ensures.events c.write_report.ensures.ok))
    (subst (λ (shot : Shot). Err shot d.story.events) c.head.ensures (subst (λ (events : List Event). Err c.head.result.now events) c.log.ensures.events c.write_report.ensures.err)))

pub returns-clause-fault : goal.returns-clause-fault
returns-clause-fault g c = λ is. fault_written c.write_report.result _ c.write_report.ensures.fault (sym c.of_write.ensures ∙ is)
