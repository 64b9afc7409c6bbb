use Rattle.std.proofs.Common.{◌++◌, [], ap, map, ◌∙◌}
use Rattle.flat_spec.specs.Occurrences.{occurrences}
use Rattle.flat_spec.specs.Below.{under_path}
use Rattle.flat_spec.proofs.BelowLemmas.{under_path-none}
use Rattle.design_model.proofs.walk.list_occurrences.Goals as goal

pub returns : goal.returns
returns g c = c.in_ok-list_below.ensures
    ∙ ap (λ v. v ++ map (under_path []) (occurrences (g.S.Shown.design c.args.design.now) c.args.root)) c.new-found.ensures.items
    ∙ under_path-none (occurrences (g.S.Shown.design c.args.design.now) c.args.root)
