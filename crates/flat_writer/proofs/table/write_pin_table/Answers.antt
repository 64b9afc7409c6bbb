use Rattle.std.proofs.Common.{◌++◌, List, sym, subst, ◌∙◌}
use Rattle.std.specs.Prelude.{OnErr, OnOk}
use Rattle.netdb_outside.specs.Outside.{Appends, AppendsFront, Rose}
use Rattle.netlist_schema.specs.Design.{Design}
use Rattle.flat_spec.specs.Flattening.{flattening}
use Rattle.flat_spec.specs.Types.{Item}
use Rattle.flat_csv_spec.specs.PinTable.{header, pin_rows}
use Rattle.flat_writer.proofs.OutcomeLemmas.{fault_has_cause, ill_done, not_topless, well_done}
use Rattle.flat_writer.proofs.table.write_pin_table.Goals as goal

pub returns-in-Ok-clause-no_top : goal.returns-in-Ok-clause-no_top
returns-in-Ok-clause-no_top g c = (
  λ is. absurd (not_topless c.write_left.result (sym c.outcome.ensures ∙ is)),
  λ none. let no_top = c.new.ensures.no_top.1 none in let walk = c.in-Ok.is in absurd (cc),
)

pub returns-in-Ok-clause-untouched : goal.returns-in-Ok-clause-untouched
returns-in-Ok-clause-untouched g c = λ is. absurd (not_topless c.write_left.result (sym c.outcome.ensures ∙ is))

pub returns-in-Ok-clause-ok : goal.returns-in-Ok-clause-ok
returns-in-Ok-clause-ok g c =
    let d = g.S.Shown.design c.args.design.now in
    let old = g.K.Sink.written c.args.out.now in
    let new = g.K.Sink.written c.write_left.new.out in
    let P : Design → List Item → Type 0 = λ e items. OnOk c.write_left.result (Appends old new (header ++ pin_rows e items)) in
    rw c.outcome.ensures (well_done c.write_left.result _ (subst (λ e. P e (flattening d)) c.in-Ok.ensures.design (subst (P c.in-Ok.walk.design) c.in-Ok.ensures.left c.write_left.ensures.ok)))

pub returns-in-Ok-clause-err : goal.returns-in-Ok-clause-err
returns-in-Ok-clause-err g c =
    let d = g.S.Shown.design c.args.design.now in
    let old = g.K.Sink.written c.args.out.now in
    let new = g.K.Sink.written c.write_left.new.out in
    let P : Design → List Item → Type 0 = λ e items. OnErr c.write_left.result (AppendsFront old new (header ++ pin_rows e items)) in
    rw c.outcome.ensures (ill_done c.write_left.result _ (subst (λ e. P e (flattening d)) c.in-Ok.ensures.design (subst (P c.in-Ok.walk.design) c.in-Ok.ensures.left c.write_left.ensures.err)))

pub returns-in-Ok-clause-fault : goal.returns-in-Ok-clause-fault
returns-in-Ok-clause-fault g c = λ is.
    fault_has_cause c.write_left.result (Rose (g.K.Sink.faults c.args.out.now) (g.K.Sink.faults c.write_left.new.out)) c.write_left.ensures.fault (sym c.outcome.ensures ∙ is)
