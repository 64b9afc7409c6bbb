use Rattle.std.proofs.Common.{List, sym, subst, arith}
use Rattle.std.specs.List.{All}
use Rattle.std.proofs.lemmas.List.Elements.{All-push}
use Rattle.db_draft.specs.Layers.{IsEmpty}
use Rattle.db_draft.specs.declared.layer.Layer.{Layer}
use Rattle.db_draft.proofs.layer.empty_layers.Goals as goal

pub loop-place-init : goal.loop-place-init
loop-place-init c = (omega (arith, c.in_ok-layers.ensures.len), subst (λ (xs : List Layer). All IsEmpty xs) (sym c.in_ok-layers.ensures.items) (λ k d less. absurd (omega (arith, less))))

pub loop-place-preserved : goal.loop-place-preserved
loop-place-preserved c = (
  omega (arith, c.loop-place.invariant.0, c.in_ok-push.ensures.len),
  subst (λ (xs : List Layer). All IsEmpty xs) (sym c.in_ok-push.ensures.items) (All-push IsEmpty c.loop-place.layers.items c.new.result c.loop-place.invariant.1 c.new.ensures),
)
