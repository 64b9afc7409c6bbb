use Rattle.std.proofs.Common.{sym, ap, ◌∙◌, rules}
use Rattle.std.specs.List.{list_any}
use Rattle.edit_rules_spec.specs.Find.{is_same}
use Rattle.db_version.proofs.Parts.{any_at, any_next}
use Rattle.db_version.proofs.Places.{got_item}
use Rattle.db_version.proofs.directory.has_same.Goals as goal

pub returns-then-has_same : goal.returns-then-has_same
returns-then-has_same c =
    sym (any_at (λ other. is_same other c.args.name.now) c.args.parts.now c.loop-part.part-index c.part-item.result (got_item c.args.parts.now c.loop-part.part-index c.part-item.result (search rules) c.part-item.is)
    (ap (list_any (λ other. is_same other c.args.name.now)) (sym c.deref.ensures) ∙ (sym c.has_same.ensures ∙ c.if-has_same.true)))

pub loop-part-preserved : goal.loop-part-preserved
loop-part-preserved c =
    any_next (λ other. is_same other c.args.name.now) c.args.parts.now c.loop-part.part-index c.part-item.result (got_item c.args.parts.now c.loop-part.part-index c.part-item.result (search rules) c.part-item.is) c.loop-part.invariant
    (ap (list_any (λ other. is_same other c.args.name.now)) (sym c.deref.ensures) ∙ (sym c.has_same.ensures ∙ c.if-has_same.false))
