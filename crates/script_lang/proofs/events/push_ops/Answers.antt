use Rattle.std.proofs.Common.{◌≡◌, ◌∙◌, ap, sym, ◌+◌, ◌∷◌, drop}
use Rattle.std.specs.Option.{option_copied}
use Rattle.std.proofs.lemmas.List.{drop_more}
use Rattle.script_lang.proofs.EventLemmas.{grows_on, more_ops}
use Rattle.script_lang.proofs.events.push_ops.Goals as goal

pub loop-op-preserved : goal.loop-op-preserved
loop-op-preserved c =
    let ops = c.args.ops.now in
    let o = c.op-item.result in
    let rest = drop (c.loop-op.op-index + 1) ops in
    let here : drop c.loop-op.op-index ops ≡ o ∷ rest = drop_more ops c.loop-op.op-index o c.loop-op-test.true ∙ ap (λ x. x ∷ rest) (sym c.op-item.is) in
    record {
      whole =
          more_ops c.loop-op.out.items c.push_op_line.new.out.items o (drop c.loop-op.op-index ops) rest c.loop-op.left.now c.next_reply.result.1.now
          (option_copied c.next_reply.result.0) here c.next_reply.ensures.first c.next_reply.ensures.others c.in_ok-push_op_line.ensures.ok
          ∙ c.loop-op.invariant.whole;
      grows = grows_on c.args.out.now.items c.loop-op.out.items c.push_op_line.new.out.items c.loop-op.invariant.grows c.push_op_line.ensures.grows;
    }
