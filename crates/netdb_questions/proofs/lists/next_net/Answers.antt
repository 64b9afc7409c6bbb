use Rattle.std.proofs.Common.{◌∷◌, ◌∙◌, arith, sym}
use Rattle.netdb_questions.specs.Lists.{nets_left}
use Rattle.netdb_questions.proofs.ListLemmas.{net_next, nets_end}
use Rattle.netdb_questions.proofs.lists.next_net.Goals as goal

pub returns-then-place-count : goal.returns-then-place-count
returns-then-place-count c =
    let none = nets_end c.args.ask.now c.args.path.now c.args.place.now (omega (arith, c.net_total-count.ensures)) in
    (none, none)

pub returns : goal.returns
returns c =
    net_next c.args.ask.now c.args.path.now c.args.place.now (omega (arith, c.net_total-count.ensures))
    ∙ (λ k. (sym c.in_ok-item.ensures) k ∷ nets_left c.args.ask.now c.args.path.now ((sym c.place_behind.ensures) k))
