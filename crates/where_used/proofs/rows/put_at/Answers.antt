use Rattle.std.proofs.Common.{◌≤◌, ◌≡◌, List, Ok, Err, length, sym, ap, subst, ◌∙◌}
use Rattle.std.specs.Prelude.{OnErr, Result}
use Rattle.std.proofs.Math.ListN.{set}
use Rattle.std.proofs.lemmas.Result.{on_ok_weaker}
use Rattle.used_spec.specs.declared.used_at.UsedAt.{UsedAt}
use Rattle.edit_cells.proofs.Patches.{changed_at_end}
use Rattle.where_used.specs.Rows.{put_use}
use Rattle.where_used.proofs.Adding.{put_back, put_same}
use Rattle.where_used.proofs.rows.put_at.Goals as goal

err_weaker : {A E : Type 0} (r : Result A E) (P Q : Type 0) → (P → Q) → OnErr r P → OnErr r Q
err_weaker (Ok x) P Q f h = tt
err_weaker (Err e) P Q f h = f h

pub returns-then-slot-as_slice-clause-ok : goal.returns-then-slot-as_slice-clause-ok
returns-then-slot-as_slice-clause-ok c =
    let past : length c.args.cells.now ≤ c.args.slot = subst (λ (xs : List (List UsedAt)). length xs ≤ c.args.slot) c.as_slice.ensures c.if-slot-as_slice.true in
    sym (changed_at_end (put_use c.args.at) c.args.cells.now c.args.slot past)

pub returns-clause-ok : goal.returns-clause-ok
returns-clause-ok c =
    on_ok_weaker c.put_to-done.result
    (λ is.
    c.set.ensures
    ∙ ap (λ (xs : List (List UsedAt)). set xs c.args.slot c.of-2.result) c.replace.ensures.put
    ∙ put_back (put_use c.args.at) c.args.cells.now c.args.slot c.of.result c.replace.result c.of-2.result c.replace.ensures.was (c.of-2.ensures ∙ is ∙ ap (put_use c.args.at) c.into_vec-users.ensures))
    c.put_to-done.ensures.ok

pub returns-clause-err : goal.returns-clause-err
returns-clause-err c =
    let xs = c.args.cells.now in
    err_weaker c.put_to-done.result (c.put_to-done.new.users.items ≡ c.into_vec-users.result.items) (c.set.new.self ≡ xs)
    (λ is.
    c.set.ensures
    ∙ ap (λ (ys : List (List UsedAt)). set ys c.args.slot c.of-2.result) c.replace.ensures.put
    ∙ ap (λ (us : List UsedAt). set (set xs c.args.slot c.of.result) c.args.slot us) (c.of-2.ensures ∙ is ∙ c.into_vec-users.ensures)
    ∙ put_same xs c.args.slot c.of.result c.replace.result c.replace.ensures.was)
    c.put_to-done.ensures.err
