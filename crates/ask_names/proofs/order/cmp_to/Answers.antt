use Rattle.std.proofs.Common.{List, ℕ, ap, ◌∙◌}
use Rattle.std.specs.Cmp.Lexicographic.{slice_cmp}
use Rattle.std.specs.Ordering.{nat_cmp}
use Rattle.ask_names.proofs.order.cmp_to.Goals as goal

pub returns : goal.returns
returns g c = c.cmp.ensures ∙ ap (λ (v : List ℕ). slice_cmp nat_cmp v c.args.name.now) c.name_at.ensures
