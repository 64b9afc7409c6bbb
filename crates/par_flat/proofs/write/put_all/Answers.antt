use Rattle.std.proofs.Common.{[], ◌∷◌}
use Rattle.std.proofs.lemmas.Result.{on_err_weaker}
use Rattle.netdb_outside.proofs.Appending.{front_more, then_front}
use Rattle.flat_spec.specs.Flattening.{flattening}
use Rattle.flat_lines_spec.specs.Lines.{item_lines}
use Rattle.par_flat.proofs.TextLemmas.{on_err}
use Rattle.par_flat.proofs.write.put_all.Goals as goal

pub returns-in_err-put_items-clause-err : goal.returns-in_err-put_items-clause-err
returns-in_err-put_items-clause-err g c =
    let d = c.args.ground.now in
    on_err c.from_residual.result _
    (front_more (g.K.Sink.written c.args.out.now) (g.K.Sink.written c.put_items.new.out) (item_lines d (flattening d)) (101 ∷ 110 ∷ 100 ∷ 10 ∷ []) c.in_err-put_items.ensures.err)

pub returns-clause-err : goal.returns-clause-err
returns-clause-err g c =
    let d = c.args.ground.now in
    on_err_weaker c.put.result
    (λ front. then_front (g.K.Sink.written c.args.out.now) (g.K.Sink.written c.put_items.new.out) (g.K.Sink.written c.put.new.out) (item_lines d (flattening d)) (101 ∷ 110 ∷ 100 ∷ 10 ∷ [])
    c.in_ok-put_items.ensures.ok front)
    c.put.ensures.err
