use Rattle.std.proofs.Common.{◌++◌, [], ◌∷◌, List, ap, ◌∙◌}
use Rattle.db_version.specs.Shot.{Shot}
use Rattle.db_core.proofs.Opening.{fresh_core}
use Rattle.db_core.proofs.database.Core.new.Goals as goal

pub invariant_of-result : goal.invariant_of-result
invariant_of-result c =
    fresh_core _ c.design_is_valid.ensures c.new-4.ensures.items
    (c.in_ok-push.ensures.items ∙ (ap (λ (ks : List Shot). ks ++ c.in_ok-first.first ∷ []) c.new-versions.ensures.items ∙ ap (λ (k : Shot). k ∷ []) c.in_ok-first.ensures))
    c.in_ok-head.ensures
    (ap (λ (k : Shot). k.version) c.of-opening.ensures)
    c.new-2.ensures.made c.new-2.ensures.live c.new-3.ensures
