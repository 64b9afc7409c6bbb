use Rattle.std.proofs.Common.{◌≡◌, ◌++◌, ◌∷◌, [], ℕ, arith, sym, ap, ◌∙◌}
use Rattle.std.specs.BTreeSet.{contains}
use Rattle.std.proofs.lemmas.List.FromFn.{map-range_with_len_more}
use Rattle.netlist_schema.specs.Order.{cell_cmp}
use Rattle.used_spec.specs.Uses.{count_in}
use Rattle.used_keep.specs.Places.{slots_by}
use Rattle.used_keep.proofs.places.rows.Goals as goal

pub loop-lib-preserved : goal.loop-lib-preserved
loop-lib-preserved g c =
    let d = g.S.Shown.design c.args.design.now in
    let lib = c.loop-lib.lib in
    let test = contains cell_cmp c.args.set.now in
    let row : c.in_ok-slots.field-0 ≡ slots_by test lib (count_in d lib) = c.in_ok-slots.ensures ∙ ap (slots_by test lib) c.cell_count.ensures.value in
    c.in_ok-push.ensures.items
    ∙ (λ i. c.loop-lib.invariant i ++ row i ∷ [])
    ∙ sym (map-range_with_len_more (λ (lib : ℕ). slots_by test lib (count_in d lib)) 0 lib lib (omega arith))
