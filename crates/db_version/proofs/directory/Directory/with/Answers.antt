use Rattle.std.proofs.Common.{◌≡◌, ◌++◌, arith, ap, length, map, ◌∙◌}
use Rattle.std.specs.Arc.{arc_value}
use Rattle.netlist_schema.specs.Names.{cell_names}
use Rattle.db_version.proofs.Parts.{all_of, count_more, joined_distinct, joined_is}
use Rattle.db_version.proofs.directory.Directory.with.Goals as goal
use Rattle.db_version.proofs.directory.Directory.with.Goals.{In_ok-parts}

pub overflow_cast-count : goal.overflow_cast-count
overflow_cast-count c = omega (arith, c.requires.few, count_more c.args.self.now c.args.more.now)

pub overflow_add-count : goal.overflow_add-count
overflow_add-count c = omega (arith, c.requires.few, count_more c.args.self.now c.args.more.now, c.self.invariant.few)

pub joined-requires : goal.joined-requires
joined-requires c =
    joined_distinct c.as_slice-parts.result.now c.split_at.result.0.now c.split_at.result.1.now c.args.self.now (cell_names (map arc_value c.args.more.now)) c.kept_parts-kept.result
    (ap all_of c.as_slice-parts.ensures.value ∙ c.self.view_is) c.split_at.ensures.front c.split_at.ensures.back c.requires.distinct

names_are : (c : In_ok-parts) → all_of c.in_ok-parts.parts.items ≡ c.args.self.now ++ cell_names (map arc_value c.args.more.now)
names_are c =
    joined_is c.as_slice-parts.result.now c.split_at.result.0.now c.split_at.result.1.now c.in_ok-parts.parts.items c.args.self.now (cell_names (map arc_value c.args.more.now)) c.in_ok-names.names c.kept_parts-kept.result
    (ap all_of c.as_slice-parts.ensures.value ∙ c.self.view_is) c.split_at.ensures.front c.split_at.ensures.back c.in_ok-names.ensures c.in_ok-parts.ensures

pub invariant_of-result : goal.invariant_of-result
invariant_of-result c =
    let long = ap length (names_are c) in
    let here = ap length c.self.view_is in record {
      counted = omega (arith, long, here, c.self.invariant.counted, count_more c.args.self.now c.args.more.now);
      few = omega (arith, here, c.self.invariant.counted, c.requires.few, count_more c.args.self.now c.args.more.now);
    }

pub returns : goal.returns
returns c = names_are c
