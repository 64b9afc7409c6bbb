use Rattle.std.proofs.Common.{◌∙◌, ap, subst, sym, None}
use Rattle.edif_spec.specs.Arranged.{canonical_text}
use Rattle.erc_spec.specs.Lines.{findings_text}
use Rattle.flat_csv_spec.specs.PinTable.{pin_table}
use Rattle.flat_lines_spec.specs.Lines.{flattening_text}
use Rattle.used_spec.specs.Lines.{uses_text}
use Rattle.netdb_calls.specs.Texts.{Writes, WritesBelow, WritesText}
use Rattle.call_status.specs.declared.status.Status.{Status}
use Rattle.netdb_calls.specs.declared.texts.Kind.{Kind}
use Rattle.netdb_calls.proofs.Writing.{fault_flattened, fault_written, flattened, topped_written, untopped_flattened, written}
use Rattle.netdb_calls.proofs.texts.write_of.Goals as goal

pub returns-in-Edif-clause-wrote : goal.returns-in-Edif-clause-wrote
returns-in-Edif-clause-wrote g c =
    let d = c.args.view.now.version.design in
    let old = g.K.Sink.written c.args.out.now in
    let new = g.K.Sink.written c.write.new.out in
    subst (λ (k : Kind). Writes c.args.view.now k old new c.of_write.result) (sym c.in-Edif.is)
    (subst (λ (s : Status). WritesText (canonical_text d) old new s) (sym c.of_write.ensures)
    (written (canonical_text d) old new c.write.result c.write.ensures.ok c.write.ensures.err))

pub returns-in-Flat-clause-wrote : goal.returns-in-Flat-clause-wrote
returns-in-Flat-clause-wrote g c =
    let d = c.args.view.now.version.design in
    let old = g.K.Sink.written c.args.out.now in
    let new = g.K.Sink.written c.flat.new.out in
    subst (λ (k : Kind). Writes c.args.view.now k old new c.of_flat.result) (sym c.in-Flat.is)
    (subst (λ (s : Status). WritesBelow d (flattening_text d None) old new s) (sym c.of_flat.ensures)
    (flattened d (flattening_text d None) old new c.flat.result c.flat.ensures.no_top (λ is. ap g.K.Sink.written (c.flat.ensures.untouched is)) c.flat.ensures.ok c.flat.ensures.err))

pub returns-in-Csv-clause-wrote : goal.returns-in-Csv-clause-wrote
returns-in-Csv-clause-wrote g c =
    let d = c.args.view.now.version.design in
    let old = g.K.Sink.written c.args.out.now in
    let new = g.K.Sink.written c.csv.new.out in
    subst (λ (k : Kind). Writes c.args.view.now k old new c.of_flat-in-Csv.result) (sym c.in-Csv.is)
    (subst (λ (s : Status). WritesBelow d (pin_table d) old new s) (sym c.of_flat-in-Csv.ensures)
    (flattened d (pin_table d) old new c.csv.result c.csv.ensures.no_top (λ is. ap g.K.Sink.written (c.csv.ensures.untouched is)) c.csv.ensures.ok c.csv.ensures.err))

pub returns-in-Erc-clause-wrote : goal.returns-in-Erc-clause-wrote
returns-in-Erc-clause-wrote g c =
    let d = c.args.view.now.version.design in
    let old = g.K.Sink.written c.args.out.now in
    let new = g.K.Sink.written c.erc.new.out in
    subst (λ (k : Kind). Writes c.args.view.now k old new c.of_flat-in-Erc.result) (sym c.in-Erc.is)
    (subst (λ (s : Status). WritesBelow d (findings_text d) old new s) (sym c.of_flat-in-Erc.ensures)
    (flattened d (findings_text d) old new c.erc.result c.erc.ensures.no_top (λ is. ap g.K.Sink.written (c.erc.ensures.untouched is)) c.erc.ensures.ok c.erc.ensures.err))

pub returns-in-Uses-clause-wrote : goal.returns-in-Uses-clause-wrote
returns-in-Uses-clause-wrote g c =
    let d = c.args.view.now.version.design in
    let old = g.K.Sink.written c.args.out.now in
    let new = g.K.Sink.written c.uses.new.out in
    subst (λ (k : Kind). Writes c.args.view.now k old new c.of_write-in-Uses.result) (sym c.in-Uses.is)
    (subst (λ (s : Status). WritesText (uses_text d) old new s) (sym c.of_write-in-Uses.ensures)
    (written (uses_text d) old new c.uses.result c.uses.ensures.ok c.uses.ensures.err))

pub returns-in-Edif-clause-fault : goal.returns-in-Edif-clause-fault
returns-in-Edif-clause-fault g c = λ is. fault_written c.write.result _ c.write.ensures.fault (sym c.of_write.ensures ∙ is)

pub returns-in-Flat-clause-fault : goal.returns-in-Flat-clause-fault
returns-in-Flat-clause-fault g c = λ is. fault_flattened c.flat.result _ c.flat.ensures.fault (sym c.of_flat.ensures ∙ is)

pub returns-in-Csv-clause-fault : goal.returns-in-Csv-clause-fault
returns-in-Csv-clause-fault g c = λ is. fault_flattened c.csv.result _ c.csv.ensures.fault (sym c.of_flat-in-Csv.ensures ∙ is)

pub returns-in-Erc-clause-fault : goal.returns-in-Erc-clause-fault
returns-in-Erc-clause-fault g c = λ is. fault_flattened c.erc.result _ c.erc.ensures.fault (sym c.of_flat-in-Erc.ensures ∙ is)

pub returns-in-Uses-clause-fault : goal.returns-in-Uses-clause-fault
returns-in-Uses-clause-fault g c = λ is. fault_written c.uses.result _ c.uses.ensures.fault (sym c.of_write-in-Uses.ensures ∙ is)

pub returns-in-Edif-clause-no_top : goal.returns-in-Edif-clause-no_top
returns-in-Edif-clause-no_top g c = λ is. topped_written c.write.result _ (sym c.of_write.ensures ∙ is)

pub returns-in-Flat-clause-no_top : goal.returns-in-Flat-clause-no_top
returns-in-Flat-clause-no_top g c = λ is. untopped_flattened c.flat.result _ c.flat.ensures.untouched (sym c.of_flat.ensures ∙ is)

pub returns-in-Csv-clause-no_top : goal.returns-in-Csv-clause-no_top
returns-in-Csv-clause-no_top g c = λ is. untopped_flattened c.csv.result _ c.csv.ensures.untouched (sym c.of_flat-in-Csv.ensures ∙ is)

pub returns-in-Erc-clause-no_top : goal.returns-in-Erc-clause-no_top
returns-in-Erc-clause-no_top g c = λ is. untopped_flattened c.erc.result _ c.erc.ensures.untouched (sym c.of_flat-in-Erc.ensures ∙ is)

pub returns-in-Uses-clause-no_top : goal.returns-in-Uses-clause-no_top
returns-in-Uses-clause-no_top g c = λ is. topped_written c.uses.result _ (sym c.of_write-in-Uses.ensures ∙ is)
