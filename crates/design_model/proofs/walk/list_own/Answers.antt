use Rattle.std.proofs.Common.{◌≡◌, ◌++◌, ◌∷◌, [], map, refl, ap, ◌∙◌}
use Rattle.flat_spec.specs.Paths.{at_path}
use Rattle.flat_spec.proofs.RunLemmas.{number_more}
use Rattle.design_model.proofs.walk.list_own.Goals as goal

pub loop-net-preserved : goal.loop-net-preserved
loop-net-preserved g c =
    let at = at_path c.args.occurrence.now.path in
    let pushed : c.push.new.self.items ≡ c.loop-net.found.items ++ at c.loop-net.net ∷ [] =
    c.in_ok-push.ensures.items ∙ ap (λ p. c.loop-net.found.items ++ at_path p c.loop-net.net ∷ []) (c.in_ok-copy.ensures.same ∙ c.path-path.ensures) in
    number_more (map at) at (λ x xs. refl) c.loop-net.net c.net_count-count.result c.loop-net.found.items c.push.new.self.items _
    c.loop-net-test.true pushed c.loop-net.invariant
