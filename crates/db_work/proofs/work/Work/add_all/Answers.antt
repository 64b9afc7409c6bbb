use Rattle.netlist_schema.specs.declared.ids.Object.TheVariants.{Directory}
use Rattle.std.proofs.Common.{arith, get_or, refl, ◌∙◌}
use Rattle.db_work.proofs.Becoming.{adds_all, adds_more, adds_none}
use Rattle.db_work.proofs.work.Work.add_all.Goals as goal

pub loop-object-init : goal.loop-object-init
loop-object-init c = λ target behind. adds_none c.args.self.now target c.args.moved.now.design c.as_slice-object-items.result.now behind

pub add_for-requires-clause-behind : goal.add_for-requires-clause-behind
add_for-requires-clause-behind c = (c.requires.0, (c.loop-object.invariant c.requires.0 c.requires.1).fuller.behind)

pub loop-object-preserved : goal.loop-object-preserved
loop-object-preserved c = λ target behind.
    let before = c.loop-object.invariant target behind in
    let first = Directory (record { 0 = 0 }) in
    adds_more c.args.self.now target c.args.moved.now.design c.loop-object.moved.design c.add_for.new.moved.design c.as_slice-object-items.result.now c.loop-object.object-index
    (get_or c.as_slice-object-items.result.now c.loop-object.object-index first) first c.loop-object-test.true refl before (c.in_ok-add_for.ensures target before.fuller.behind)

pub returns : goal.returns
returns c = λ target behind.
    let done = c.loop-object.invariant target behind in (
      adds_all c.args.self.now target c.args.moved.now.design c.loop-object.moved.design c.as_slice-object-items.result.now c.loop-object.object-index (omega arith) (c.as_slice-object-items.ensures ∙ c.written.ensures.value) done,
      done.fuller.cells,
    )
