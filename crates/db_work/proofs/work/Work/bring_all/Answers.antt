use Rattle.netlist_schema.specs.declared.ids.Object.TheVariants.{Directory}
use Rattle.std.proofs.Common.{arith, get_or, refl, ◌∙◌}
use Rattle.db_work.proofs.Becoming.{brings_all, brings_more, brings_none, new_kept}
use Rattle.db_work.proofs.work.Work.bring_all.Goals as goal

pub loop-object-init : goal.loop-object-init
loop-object-init c = λ target near met. (brings_none c.args.self.now target c.args.moved.now.design c.as_slice-object-items.result.now near, met)

pub bring-requires-clause-near : goal.bring-requires-clause-near
bring-requires-clause-near c =
    let before = c.loop-object.invariant c.requires.0 c.requires.1 c.requires.2 in
    (c.requires.0, before.0.near, before.1)

pub loop-object-preserved : goal.loop-object-preserved
loop-object-preserved c = λ target near met.
    let before = c.loop-object.invariant target near met in
    let first = Directory (record { 0 = 0 }) in
    let step = c.in_ok-bring.ensures target before.0.near before.1 in (
      brings_more c.args.self.now target c.loop-object.moved.design c.bring.new.moved.design c.as_slice-object-items.result.now c.loop-object.object-index
          (get_or c.as_slice-object-items.result.now c.loop-object.object-index first) first c.loop-object-test.true refl before.0 step,
      new_kept c.args.head.now.design target c.loop-object.moved.design c.bring.new.moved.design step.kept before.1,
    )

pub returns : goal.returns
returns c = λ target near met.
    brings_all c.args.self.now target c.loop-object.moved.design c.as_slice-object-items.result.now c.loop-object.object-index (omega arith) (c.as_slice-object-items.ensures ∙ c.written.ensures.value) (c.loop-object.invariant target near met).0
