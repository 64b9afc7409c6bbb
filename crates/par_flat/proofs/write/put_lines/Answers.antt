use Rattle.std.proofs.Common.{rules, ◌≡◌, ℕ, List, subst}
use Rattle.netdb_outside.specs.Outside.{AppendsFront}
use Rattle.par_flat.proofs.TextLemmas.{front_put, on_err}
use Rattle.par_flat.proofs.write.put_lines.Goals as goal

pub returns-in_err-put-clause-err : goal.returns-in_err-put-clause-err
returns-in_err-put-clause-err g c =
    let same : c.as_slice.result.now ≡ c.lines-item.result.text.items = search rules in
    on_err c.from_residual.result _
    (front_put c.args.ready.now c.loop-lines.lines-index (g.K.Sink.written c.args.out.now) (g.K.Sink.written c.loop-lines.out) (g.K.Sink.written c.put.new.out)
    c.lines-item.result c.loop-lines-test.true c.lines-item.is c.loop-lines.invariant.written
    (subst (λ (bytes : List ℕ). AppendsFront (g.K.Sink.written c.loop-lines.out) (g.K.Sink.written c.put.new.out) bytes) same c.in_err-put.ensures.err))
