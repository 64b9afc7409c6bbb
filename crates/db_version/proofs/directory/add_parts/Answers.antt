use Rattle.std.proofs.Common.{ℕ, ◌++◌, List, sym, ap, subst, ◌∙◌, rules}
use Rattle.netlist_schema.specs.Names.{AreDistinct}
use Rattle.db_version.proofs.Parts.{part_added, part_distinct}
use Rattle.db_version.proofs.Places.{got_item}
use Rattle.db_version.proofs.directory.add_parts.Goals as goal

pub add_names-requires : goal.add_names-requires
add_names-requires c =
    subst AreDistinct (λ i. sym c.loop-part.invariant i ++ sym (c.as_slice.ensures.value ∙ c.deref.ensures) i)
    (part_distinct c.args.names.now c.args.parts.now c.loop-part.part-index c.part-item.result c.requires (got_item c.args.parts.now c.loop-part.part-index c.part-item.result (search rules) c.part-item.is))

pub loop-part-preserved : goal.loop-part-preserved
loop-part-preserved c =
    part_added c.args.names.now c.loop-part.names c.add_names.new.self c.args.parts.now c.loop-part.part-index c.part-item.result (got_item c.args.parts.now c.loop-part.part-index c.part-item.result (search rules) c.part-item.is) c.loop-part.invariant
    (c.in_ok-add_names.ensures ∙ ap (λ (xs : List (List ℕ)). c.loop-part.names ++ xs) (c.as_slice.ensures.value ∙ c.deref.ensures))
