use Rattle.std.proofs.Common.{◌≡◌, ap, ◌∙◌, Option, Some, None, ℕ, refl}
use Rattle.std.specs.Option.{option_and_then, option_flatten}
use Rattle.netlist_schema.proofs.Objects.{get_by_order}
use Rattle.conflict_check.proofs.stamps.mark_of.Goals as goal

flat : (o : Option (Option ℕ)) → option_flatten o ≡ option_and_then (λ mark. mark) o
flat None = refl
flat (Some mark) = refl

pub returns : goal.returns
returns c = c.flatten.ensures ∙ flat c.copied.result ∙ ap (option_and_then (λ (mark : Option ℕ). mark)) (c.copied.ensures ∙ c.get.ensures.value ∙ get_by_order c.args.marks.now c.args.object)
