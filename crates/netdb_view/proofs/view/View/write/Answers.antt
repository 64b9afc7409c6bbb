use Rattle.std.proofs.Common.{subst, OnErr, OnOk}
use Rattle.db_version.specs.Shot.{Shot}
use Rattle.edif_spec.specs.Arranged.{canonical_text}
use Rattle.netdb_outside.specs.Outside.{Appends, AppendsFront}
use Rattle.netdb_view.proofs.view.View.write.Goals as goal

pub returns-clause-ok : goal.returns-clause-ok
returns-clause-ok g c =
    subst (λ (v : Shot). OnOk c.write_design.result (Appends (g.K.Sink.written c.args.out.now) (g.K.Sink.written c.write_design.new.out) (canonical_text v.design)))
    c.version-version.ensures c.write_design.ensures.ok

pub returns-clause-err : goal.returns-clause-err
returns-clause-err g c =
    subst (λ (v : Shot). OnErr c.write_design.result (AppendsFront (g.K.Sink.written c.args.out.now) (g.K.Sink.written c.write_design.new.out) (canonical_text v.design)))
    c.version-version.ensures c.write_design.ensures.err
