use Rattle.std.proofs.Common.{◌≤◌, List, length, sym, ap, subst, ◌∙◌}
use Rattle.std.proofs.Math.ListN.{set}
use Rattle.used_spec.specs.declared.used_at.UsedAt.{UsedAt}
use Rattle.edit_cells.proofs.Patches.{changed_at_end}
use Rattle.where_used.specs.Rows.{drop_use}
use Rattle.where_used.proofs.Adding.{put_back}
use Rattle.where_used.proofs.rows.drop_at.Goals as goal

pub returns-then-slot-as_slice : goal.returns-then-slot-as_slice
returns-then-slot-as_slice c =
    let past : length c.args.cells.now ≤ c.args.slot = subst (λ (xs : List (List UsedAt)). length xs ≤ c.args.slot) c.as_slice.ensures c.if-slot-as_slice.true in
    sym (changed_at_end (drop_use c.args.at) c.args.cells.now c.args.slot past)

pub returns : goal.returns
returns c =
    c.set.ensures
    ∙ ap (λ (xs : List (List UsedAt)). set xs c.args.slot c.of-2.result) c.replace.ensures.put
    ∙ put_back (drop_use c.args.at) c.args.cells.now c.args.slot c.of.result c.replace.result c.of-2.result c.replace.ensures.was (c.of-2.ensures ∙ c.drop_from.ensures ∙ ap (drop_use c.args.at) c.into_vec-users.ensures)
