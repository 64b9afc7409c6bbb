use Rattle.std.proofs.Common.{◌≤◌, List, arith, length, sym, ap, ◌∙◌}
use Rattle.std.proofs.lemmas.List.{take_all}
use Rattle.used_spec.specs.Uses.{uses}
use Rattle.where_used.specs.Moves.{with_news, without_olds}
use Rattle.where_used.specs.declared.moves.Move.{Move}
use Rattle.where_used.proofs.Moving.{refill_is}
use Rattle.where_used.proofs.indexed.make_refill.Goals as goal

pub returns-in-Ok-clause-index : goal.returns-in-Ok-clause-index
returns-in-Ok-clause-index c =
    let d = c.args.pair.now.design in
    let cell = c.args.refill.now.cell in
    let places = c.as_slice-places.ensures.value in
    c.drop_olds.ensures
    ∙ (λ i. without_olds cell (places i) ((c.in_ok-put_news.ensures.ok ∙ ap (with_news cell c.as_slice-places.result.now) c.requires.index) i))
    ∙ ap (λ (ms : List Move). without_olds cell c.args.refill.now.places.items (with_news cell ms (uses d))) places
    ∙ refill_is d c.args.change cell c.args.refill.now.places.items c.requires.can c.requires.refill
    ∙ ap uses (sym c.in-Ok.ensures.ok)

pub returns-in-Err-clause-index : goal.returns-in-Err-clause-index
returns-in-Err-clause-index c =
    let d = c.args.pair.now.design in
    let cell = c.args.refill.now.cell in
    let ms = c.as_slice-places.result.now in
    let past : length ms ≤ length ms = omega arith in
    c.drop_news.ensures (uses d)
    (c.in_ok-put_news.ensures.ok ∙ ap (with_news cell ms) c.requires.index ∙ ap (λ (xs : List Move). with_news cell xs (uses d)) (sym (take_all (length ms) ms past)))
    ∙ ap uses (sym c.in-Err.ensures.err)
