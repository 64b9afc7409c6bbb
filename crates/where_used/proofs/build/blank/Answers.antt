use Rattle.std.proofs.Common.{◌≡◌, ◌++◌, ◌∷◌, [], ℕ, arith, sym, ap, ◌∙◌}
use Rattle.std.proofs.lemmas.List.FromFn.{map-range_with_len_more}
use Rattle.used_spec.specs.Uses.{count_in}
use Rattle.where_used.specs.Index.{blank_row}
use Rattle.where_used.proofs.build.blank.Goals as goal

pub loop-lib-preserved : goal.loop-lib-preserved
loop-lib-preserved g c =
    let d = g.S.Shown.design c.args.design.now in
    let lib = c.loop-lib.lib in
    let row : c.in_ok-blank_cells.field-0 ≡ blank_row (count_in d lib) = c.in_ok-blank_cells.ensures ∙ ap blank_row c.cell_count.ensures.value in
    c.in_ok-push.ensures.items
    ∙ (λ i. c.loop-lib.invariant i ++ row i ∷ [])
    ∙ sym (map-range_with_len_more (λ (lib : ℕ). blank_row (count_in d lib)) 0 lib lib (omega arith))
