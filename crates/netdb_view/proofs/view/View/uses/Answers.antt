use Rattle.std.proofs.Common.{subst, OnErr}
use Rattle.db_version.specs.Shot.{Shot}
use Rattle.used_spec.specs.Lines.{uses_text}
use Rattle.netdb_outside.specs.Outside.{AppendsFront}
use Rattle.netdb_view.proofs.view.View.uses.Goals as goal

pub returns-clause-err : goal.returns-clause-err
returns-clause-err g c =
    subst (λ (v : Shot). OnErr c.write_uses.result (AppendsFront (g.K.Sink.written c.args.out.now) (g.K.Sink.written c.write_uses.new.out) (uses_text v.design)))
    c.version-version.ensures c.write_uses.ensures.err
