use Rattle.std.proofs.Common.{subst, OnErr, OnOk}
use Rattle.db_version.specs.Shot.{Shot}
use Rattle.erc_spec.specs.Lines.{findings_text}
use Rattle.netdb_outside.specs.Outside.{Appends, AppendsFront}
use Rattle.netdb_view.proofs.view.View.erc.Goals as goal

pub returns-clause-ok : goal.returns-clause-ok
returns-clause-ok g c =
    subst (λ (v : Shot). OnOk c.write_findings.result (Appends (g.K.Sink.written c.args.out.now) (g.K.Sink.written c.write_findings.new.out) (findings_text v.design)))
    c.version-version.ensures c.write_findings.ensures.ok

pub returns-clause-err : goal.returns-clause-err
returns-clause-err g c =
    subst (λ (v : Shot). OnErr c.write_findings.result (AppendsFront (g.K.Sink.written c.args.out.now) (g.K.Sink.written c.write_findings.new.out) (findings_text v.design)))
    c.version-version.ensures c.write_findings.ensures.err
