use Rattle.std.proofs.Common.{List, sym, subst, ◌∙◌}
use Rattle.std.specs.Prelude.{OnErr, OnOk}
use Rattle.netdb_outside.specs.Outside.{Appends, AppendsFront, Rose}
use Rattle.erc_spec.specs.Lines.{found_text}
use Rattle.erc_spec.specs.Types.{Finding}
use Rattle.flat_writer.proofs.OutcomeLemmas.{fault_has_cause, ill_done, not_topless, well_done}
use Rattle.erc_report.proofs.write.write_findings.Goals as goal

pub returns-in-Ok-clause-no_top : goal.returns-in-Ok-clause-no_top
returns-in-Ok-clause-no_top g c = (
  λ is. absurd (not_topless c.write_found.result (sym c.outcome.ensures ∙ is)),
  λ none. let no_top = c.erc_check.ensures.no_top.1 none in let found = c.in-Ok.is in absurd (cc),
)

pub returns-in-Ok-clause-untouched : goal.returns-in-Ok-clause-untouched
returns-in-Ok-clause-untouched g c = λ is. absurd (not_topless c.write_found.result (sym c.outcome.ensures ∙ is))

pub returns-in-Ok-clause-ok : goal.returns-in-Ok-clause-ok
returns-in-Ok-clause-ok g c =
    let d = g.S.Shown.design c.args.design.now in
    let old = g.K.Sink.written c.args.out.now in
    let new = g.K.Sink.written c.write_found.new.out in
    let P : List Finding → Type 0 = λ found. OnOk c.write_found.result (Appends old new (found_text d found)) in
    rw c.outcome.ensures (well_done c.write_found.result _ (subst P (c.as_slice.ensures ∙ c.in-Ok.ensures.found) c.write_found.ensures.ok))

pub returns-in-Ok-clause-err : goal.returns-in-Ok-clause-err
returns-in-Ok-clause-err g c =
    let d = g.S.Shown.design c.args.design.now in
    let old = g.K.Sink.written c.args.out.now in
    let new = g.K.Sink.written c.write_found.new.out in
    let P : List Finding → Type 0 = λ found. OnErr c.write_found.result (AppendsFront old new (found_text d found)) in
    rw c.outcome.ensures (ill_done c.write_found.result _ (subst P (c.as_slice.ensures ∙ c.in-Ok.ensures.found) c.write_found.ensures.err))

pub returns-in-Ok-clause-fault : goal.returns-in-Ok-clause-fault
returns-in-Ok-clause-fault g c = λ is.
    fault_has_cause c.write_found.result (Rose (g.K.Sink.faults c.args.out.now) (g.K.Sink.faults c.write_found.new.out)) c.write_found.ensures.fault (sym c.outcome.ensures ∙ is)
