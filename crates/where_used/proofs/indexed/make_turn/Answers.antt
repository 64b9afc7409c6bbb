use Rattle.std.proofs.Common.{List, sym, ap, ◌∙◌}
use Rattle.std.specs.Option.{option_map_or}
use Rattle.used_spec.specs.Uses.{uses}
use Rattle.used_spec.specs.declared.used_at.UsedAt.{UsedAt}
use Rattle.where_used.specs.Rows.{drop_in, put_in}
use Rattle.where_used.proofs.Turned.{turn_is}
use Rattle.where_used.proofs.indexed.make_turn.Goals as goal

pub returns-in-Ok-clause-index : goal.returns-in-Ok-clause-index
returns-in-Ok-clause-index c =
    let d = c.args.pair.now.design in
    let turn = c.args.turn in
    c.take_out.ensures
    ∙ ap (λ (index : List (List (List UsedAt))). option_map_or (λ cell. drop_in cell turn.at index) turn.old index) (c.in_ok-put.ensures.ok ∙ ap (put_in turn.of turn.at) c.requires.index)
    ∙ (turn_is d c.args.change turn.at turn.of turn.old c.requires.can c.requires.turn).0
    ∙ ap uses (sym c.in-Ok.ensures.ok)

pub returns-in-Err-clause-index : goal.returns-in-Err-clause-index
returns-in-Err-clause-index c =
    let d = c.args.pair.now.design in
    let turn = c.args.turn in
    c.take_out-in-Err.ensures
    ∙ ap (drop_in turn.of turn.at) (c.in_ok-put.ensures.ok ∙ ap (put_in turn.of turn.at) c.requires.index)
    ∙ (turn_is d c.args.change turn.at turn.of turn.old c.requires.can c.requires.turn).1
    ∙ ap uses (sym c.in-Err.ensures.err)
