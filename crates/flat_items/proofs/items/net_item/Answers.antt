use Rattle.std.proofs.Common.{ap, ◌∙◌}
use Rattle.flat_spec.specs.Flattening.{net_item}
use Rattle.flat_spec.specs.Occurrences.{Occurrence}
use Rattle.flat_spec.specs.Paths.{at_path}
use Rattle.flat_spec.specs.Types.{NetAt}
use Rattle.flat_spec.specs.declared.item.Item.TheVariants as items
use Rattle.flat_items.specs.Stand.{here_of, stand_of, top_of}
use Rattle.flat_items.specs.declared.lent.ItemRef.TheVariants as refs
use Rattle.flat_items.proofs.StageLemmas.{net_ahead}
use Rattle.flat_items.proofs.items.net_item.Goals as goal

pub returns : goal.returns
returns g c =
    let d = g.S.Shown.design c.args.ground.now.design in
    let o : Occurrence = here_of (stand_of c.args.place.now) in
    net_ahead d o c.args.net (refs.Net c.as_slice-path.result c.args.net c.first_of.result) c.requires.net
    (ap (λ (r : NetAt). items.Net c.as_slice-path.result.now c.args.net r) c.first_of.ensures.net
    ∙ ap (λ p. net_item d (top_of d).cell (at_path p c.args.net)) c.as_slice-path.ensures.value)
