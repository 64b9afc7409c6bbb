use Rattle.std.proofs.Common.{◌≡◌, ◌+◌, [], ◌∙◌, ap, length, subst, sym}
use Rattle.std.specs.List.{All}
use Rattle.std.proofs.lemmas.List.{length_push}
use Rattle.std.proofs.lemmas.List.Elements.{All-push}
use Rattle.net_rows.proofs.lists.no_lists.Goals as goal

pub loop-preserved : goal.loop-preserved
loop-preserved g c = (
  ap length c.in_ok-push.ensures.items ∙ length_push c.loop.lists.items c.new.result ∙ ap (λ n. n + 1) c.loop.invariant.0,
  subst (All (λ list. list.items ≡ [])) (sym c.in_ok-push.ensures.items) (All-push (λ list. list.items ≡ []) c.loop.lists.items c.new.result c.loop.invariant.1 c.new.ensures.items),
)
