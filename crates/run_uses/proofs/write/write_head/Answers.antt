use Rattle.std.proofs.Common.{subst}
use Rattle.std.proofs.lemmas.Result.{on_err_weaker, on_ok_weaker}
use Rattle.netdb_outside.specs.Outside.{Appends, AppendsFront}
use Rattle.used_spec.specs.HeadUses.{head_uses_text}
use Rattle.run_uses.proofs.Uses.{lent_uses}
use Rattle.run_uses.proofs.write.write_head.Goals as goal

pub returns-clause-ok : goal.returns-clause-ok
returns-clause-ok g c =
    let old = g.K.Sink.written c.args.out.now in
    let new = g.K.Sink.written c.write_head_uses.new.out in
    on_ok_weaker c.write_head_uses.result
    (λ (all : Appends old new (head_uses_text c.opening.result.now.design c.log.result.now)).
    subst (Appends old new) (lent_uses c.args.closed.now.core c.opening.result.now c.log.result.now c.opening.ensures.value c.log.ensures.events) all)
    c.write_head_uses.ensures.ok

pub returns-clause-err : goal.returns-clause-err
returns-clause-err g c =
    let old = g.K.Sink.written c.args.out.now in
    let new = g.K.Sink.written c.write_head_uses.new.out in
    on_err_weaker c.write_head_uses.result
    (λ (part : AppendsFront old new (head_uses_text c.opening.result.now.design c.log.result.now)).
    subst (AppendsFront old new) (lent_uses c.args.closed.now.core c.opening.result.now c.log.result.now c.opening.ensures.value c.log.ensures.events) part)
    c.write_head_uses.ensures.err
