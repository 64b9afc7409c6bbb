use Rattle.std.proofs.Common.{◌≡◌, ◌++◌, ◌∷◌, [], ℕ, List, arith, sym, ◌∙◌}
use Rattle.std.proofs.lemmas.List.FromFn.{map-range_with_len_more}
use Rattle.used_spec.specs.declared.used_at.UsedAt.{UsedAt}
use Rattle.where_used.proofs.build.blank_cells.Goals as goal

abbrev none : ℕ → List UsedAt
none slot = []

pub loop-preserved : goal.loop-preserved
loop-preserved c =
    let empty : c.of.result ≡ [] = c.of.ensures ∙ c.new.ensures.items in
    c.in_ok-push.ensures.items
    ∙ (λ i. c.loop.invariant i ++ empty i ∷ [])
    ∙ sym (map-range_with_len_more none 0 c.loop.counter c.loop.counter (omega arith))
