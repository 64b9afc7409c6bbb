use Rattle.std.proofs.Common.{◌≡◌, ◌<◌, ◌++◌, ◌∷◌, [], ℕ, map, length, refl, ap, subst, sym, ◌∙◌}
use Rattle.std.specs.List.{Contains}
use Rattle.flat_spec.specs.Flattening.{net_item}
use Rattle.flat_spec.specs.Paths.{at_path, nets_at}
use Rattle.flat_spec.specs.declared.item.Item.{Item}
use Rattle.flat_spec.proofs.PathLemmas.{IsNet-from}
use Rattle.flat_spec.proofs.RunLemmas.{number_more}
use Rattle.design_model.proofs.TableLemmas.{net_listed}
use Rattle.design_model.proofs.items.add_nets.Goals as goal

pub net_item-requires-clause-listed : goal.net_item-requires-clause-listed
net_item-requires-clause-listed g c =
    let d = g.S.Shown.design c.args.design.now in
    let o = c.args.occurrence.now in
    let within : c.loop-net.net < length (nets_at d o.cell) =
    subst (λ n. c.loop-net.net < n) (c.net_count-count.ensures ∙ ap (λ id. length (nets_at d id)) c.cell.ensures) c.loop-net-test.true in
    let net = IsNet-from d c.args.nets.now.root o.cell o.path c.loop-net.net c.requires.reached within in
    subst (λ p. Contains c.args.nets.now.nets.items (at_path p c.loop-net.net)) (sym c.path-path.ensures)
    (net_listed d c.args.nets.now c.requires.nets c.requires.valid.no_cycle (at_path o.path c.loop-net.net) net)

pub loop-net-preserved : goal.loop-net-preserved
loop-net-preserved g c =
    let d = g.S.Shown.design c.args.design.now in
    let path = c.args.occurrence.now.path in
    let make : ℕ → Item = λ n. net_item d c.args.nets.now.root (at_path path n) in
    let pushed : c.push.new.self.items ≡ c.loop-net.items.items ++ make c.loop-net.net ∷ [] =
    c.in_ok-push.ensures.items
    ∙ ap (λ v. c.loop-net.items.items ++ v ∷ [])
    (c.in_ok-item.ensures d c.requires.nets ∙ ap (λ p. net_item d c.args.nets.now.root (at_path p c.loop-net.net)) c.path-path.ensures) in
    number_more (λ xs. map (net_item d c.args.nets.now.root) (map (at_path path) xs)) make (λ x xs. refl)
    c.loop-net.net c.net_count-count.result c.loop-net.items.items c.push.new.self.items _ c.loop-net-test.true pushed c.loop-net.invariant
