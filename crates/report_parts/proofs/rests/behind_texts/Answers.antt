use Rattle.report_parts.proofs.Comparing.{all_behind, back_next, none_behind, on_next}
use Rattle.report_parts.proofs.rests.behind_texts.Goals as goal

pub loop-number-init : goal.loop-number-init
loop-number-init c = record { on = λ more e. e; back = λ more e. e }

pub loop-number-preserved : goal.loop-number-preserved
loop-number-preserved c =
    let i = c.loop-number.invariant in
    record {
      on = λ more whole. on_next c.args.texts.now c.args.text.now c.loop-number.rest.now c.loop-number.number c.index-texts-number.result c.as_slice.result.now c.loop-number-test.true c.index-texts-number.is c.as_slice.ensures.value i.on
          c.in-Some.more.now c.in-Some.ensures more whole;
      back = λ more at. back_next c.args.texts.now c.args.text.now c.loop-number.rest.now c.loop-number.number c.index-texts-number.result c.as_slice.result.now c.loop-number-test.true c.index-texts-number.is c.as_slice.ensures.value i.back
          c.in-Some.more.now c.in-Some.ensures more at;
    }

pub returns-in-None : goal.returns-in-None
returns-in-None c =
    none_behind c.args.texts.now c.args.text.now c.loop-number.rest.now c.loop-number.number c.index-texts-number.result c.as_slice.result.now c.loop-number-test.true c.index-texts-number.is c.as_slice.ensures.value
    c.loop-number.invariant.on c.in-None.ensures

pub returns : goal.returns
returns c = all_behind c.args.texts.now c.args.text.now c.loop-number.rest.now c.loop-number.number c.loop-number-test.false c.loop-number.invariant.back
