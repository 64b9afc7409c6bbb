use Rattle.std.proofs.Common.{◌+◌, drop, arith}
use Rattle.flat_spec.specs.Occurrences.{Occurrence}
use Rattle.flat_items.specs.Left.{own_left}
use Rattle.flat_items.specs.Stand.{here_of, stand_of}
use Rattle.flat_items.specs.declared.place.Stage.TheVariants.{Nets}
use Rattle.flat_items.proofs.StageLemmas.{goes_on_with, net_behind, nets_few}
use Rattle.flat_items.proofs.behind.behind_net.Goals as goal

pub overflow_add-net : goal.overflow_add-net
overflow_add-net g c =
    let few = nets_few (g.S.Shown.design c.args.ground.now.design) c.requires.ground.valid c.args.place.now.here.cell in
    let less = c.requires.net in
    omega (arith, less, few)

pub returns : goal.returns
returns g c =
    let d = g.S.Shown.design c.args.ground.now.design in
    let o : Occurrence = here_of (stand_of c.args.place.now) in
    goes_on_with d o (own_left d o (Nets (c.args.net + 1))) (drop 1 (own_left d o (Nets c.args.net))) c.from_net.result (net_behind d o c.args.net c.requires.net)
    c.from_net.ensures
