use Rattle.std.proofs.Common.{◌≡◌, List, subst, sym}
use Rattle.used_spec.specs.Uses.{all_placed, uses}
use Rattle.used_spec.specs.declared.used_at.UsedAt.{UsedAt}
use Rattle.where_used.specs.Index.{HasAdded}
use Rattle.where_used.specs.Rows.{IsIndex}
use Rattle.where_used.proofs.Entries.{index_is}
use Rattle.where_used.proofs.Rising.{uses_index}
use Rattle.where_used.proofs.used.Used.of.Goals as goal

pub returns : goal.returns
returns g c =
    let d = g.S.Shown.design c.args.design.now in
    index_is d c.add_all.new.index.items (subst (λ (old : List (List (List UsedAt))). HasAdded old c.add_all.new.index.items (all_placed d)) c.in_ok-libs.ensures c.in_ok-add_all.ensures)

pub invariant_of-result : goal.invariant_of-result
invariant_of-result g c =
    let d = g.S.Shown.design c.args.design.now in
    let made : c.add_all.new.index.items ≡ uses d =
    index_is d c.add_all.new.index.items (subst (λ (old : List (List (List UsedAt))). HasAdded old c.add_all.new.index.items (all_placed d)) c.in_ok-libs.ensures c.in_ok-add_all.ensures) in
    subst IsIndex (sym made) (uses_index d)
