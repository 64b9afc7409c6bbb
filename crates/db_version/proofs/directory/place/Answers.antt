use Rattle.std.proofs.Common.{◌+◌, ℕ, Some, arith, length, sym, ap, ◌∙◌, rules}
use Rattle.edit_rules_spec.specs.Find.{place_of}
use Rattle.db_version.proofs.Parts.{part_count, part_long, place_at, place_next}
use Rattle.db_version.proofs.Places.{got_item}
use Rattle.db_version.proofs.directory.place.Goals as goal

pub overflow_cast-result : goal.overflow_cast-result
overflow_cast-result c =
    omega (arith, c.requires, part_long c.args.parts.now c.loop-part.part-index c.part-item.result (got_item c.args.parts.now c.loop-part.part-index c.part-item.result (search rules) c.part-item.is), ap length c.deref.ensures, c.in-Some.ensures.within)

pub overflow_add-result : goal.overflow_add-result
overflow_add-result c =
    omega (arith, c.requires, c.loop-part.invariant.counted, part_long c.args.parts.now c.loop-part.part-index c.part-item.result (got_item c.args.parts.now c.loop-part.part-index c.part-item.result (search rules) c.part-item.is), ap length c.deref.ensures, c.in-Some.ensures.within)

pub returns-in-Some : goal.returns-in-Some
returns-in-Some c =
    ap (λ (n : ℕ). Some (n + c.in-Some.at)) c.loop-part.invariant.counted
    ∙ sym (place_at c.args.name.now c.args.parts.now c.loop-part.part-index c.in-Some.at c.part-item.result (got_item c.args.parts.now c.loop-part.part-index c.part-item.result (search rules) c.part-item.is) c.loop-part.invariant.none
    (ap (place_of c.args.name.now) (sym c.deref.ensures) ∙ sym c.in-Some.ensures.value))

pub overflow_cast-before : goal.overflow_cast-before
overflow_cast-before c =
    omega (arith, c.requires, part_long c.args.parts.now c.loop-part.part-index c.part-item.result (got_item c.args.parts.now c.loop-part.part-index c.part-item.result (search rules) c.part-item.is), ap length c.deref-in-None.ensures, c.len.ensures)

pub overflow_add-before : goal.overflow_add-before
overflow_add-before c =
    omega (arith, c.requires, c.loop-part.invariant.counted, part_long c.args.parts.now c.loop-part.part-index c.part-item.result (got_item c.args.parts.now c.loop-part.part-index c.part-item.result (search rules) c.part-item.is), ap length c.deref-in-None.ensures, c.len.ensures)

pub loop-part-preserved : goal.loop-part-preserved
loop-part-preserved c =
    let there = got_item c.args.parts.now c.loop-part.part-index c.part-item.result (search rules) c.part-item.is in record {
      counted = omega (arith, c.loop-part.invariant.counted, part_count c.args.parts.now c.loop-part.part-index c.part-item.result there, ap length c.deref-in-None.ensures, c.len.ensures);
      none = place_next c.args.name.now c.args.parts.now c.loop-part.part-index c.part-item.result there c.loop-part.invariant.none (ap (place_of c.args.name.now) (sym c.deref.ensures) ∙ sym c.in-None.ensures.value);
    }
