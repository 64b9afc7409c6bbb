use Rattle.std.proofs.Common.{◌≡◌, ap, ◌∙◌}
use Rattle.netlist_schema.specs.Design.{Design}
use Rattle.edit_cells.specs.State.{State}
use Rattle.used_replay.specs.Replayed.{replayed}
use Rattle.used_replay.proofs.Lasting.{replayed_is_head}
use Rattle.head_uses.proofs.write.head_watched.Goals as goal

pub returns : goal.returns
returns g c =
    let opening = g.S.Shown.design c.args.opening.now in
    let begun : c.in_ok-watched.watched.design ≡ opening = ap (λ (w : State). w.design) c.in_ok-watched.ensures ∙ c.in_ok-design.ensures in
    c.in_ok-replay.ensures.done
    ∙ ap (λ (d : Design). replayed d c.args.history.now) begun
    ∙ replayed_is_head opening c.args.history.now
