use Rattle.std.proofs.Common.{ap, ◌∙◌}
use Rattle.std.specs.Prelude.{slice_set}
use Rattle.std.proofs.lemmas.Option.{slice_get_within}
use Rattle.std.proofs.lemmas.Result.{on_ok_weaker}
use Rattle.edit_spec.specs.DropInst.{net_without_inst}
use Rattle.eco_ops.proofs.NetsTurned.{put_same}
use Rattle.eco_ops.proofs.inst_plans.put_without.Goals as goal

pub returns-then-not-has_end_from : goal.returns-then-not-has_end_from
returns-then-not-has_end_from c =
    put_same c.args.nets.now c.args.place c.args.net.now (net_without_inst c.args.inst c.args.net.now) c.requires (c.has_end_from.ensures c.if-not-has_end_from.true)

pub put-requires : goal.put-requires
put-requires c = slice_get_within c.args.nets.now c.args.place c.args.net.now c.requires

pub returns : goal.returns
returns c =
    on_ok_weaker c.put.result
    (λ is. is ∙ ap (slice_set c.args.nets.now c.args.place) (c.in_ok-made.ensures ∙ c.in_ok-net_without.ensures ∙ ap (net_without_inst c.args.inst) c.deref.ensures))
    c.put.ensures.ok
