use Rattle.std.proofs.Common.{◌+◌, ◌-◌, nat_lt, refl, sym, ap, ◌∙◌}
use Rattle.edit_rules_spec.specs.Rule.{refuse}
use Rattle.edit_rules_spec.specs.declared.reply.Reply.TheVariants.{TooMany}
use Rattle.netlist_schema.specs.Types.{Inst}
use Rattle.ungroup_plans.specs.Heads.{site}
use Rattle.ungroup_plans.proofs.Counts.{insts_over, nets_over, none_over}
use Rattle.ungroup_plans.proofs.InstLemmas.{item_is}
use Rattle.ungroup_plans.proofs.contents.dissolved.Goals as goal

pub returns-in-Some : goal.returns-in-Some
returns-in-Some c = λ inst at.
    insts_over c.args.around.now c.args.place inst c.args.within.now c.requires.place c.in-Some.refusal
    (c.in-Some.ensures ∙ (λ i. refuse (nat_lt 1048576 (c.len.ensures i - 1 + c.len-2.ensures i)) (TooMany 1048576)))

pub returns-in-Some-over_nets : goal.returns-in-Some-over_nets
returns-in-Some-over_nets c = λ inst at.
    nets_over c.args.around.now c.args.place inst c.args.within.now c.requires.place c.in_ok-grouped.grouped c.in-Some-over_nets.refusal (c.in_ok-grouped.ensures inst)
    (c.in_default.ensures ∙ (λ i. refuse (nat_lt 1048576 (c.len.ensures i - 1 + c.len-2.ensures i)) (TooMany 1048576)))
    c.in-Some-over_nets.ensures

pub returns : goal.returns
returns c = λ inst at.
    let s = site c.args.around.now c.args.place inst c.args.within.now in
    let outer = c.args.around.now.insts in
    let item = c.deref.ensures ∙ item_is outer outer c.args.place c.at-inst.result.now inst refl c.at-inst.ensures.is at in
    let insts = c.in_ok-insts.ensures inst at in
    let nets = c.in_ok-nets.ensures s refl (ap (λ (v : Inst). v.name) (sym item)) (c.in_ok-grouped.ensures inst) in (
      none_over c.args.around.now c.args.place inst c.args.within.now c.requires.place c.in_ok-grouped.grouped (c.in_ok-grouped.ensures inst)
          (c.in_default.ensures ∙ (λ i. refuse (nat_lt 1048576 (c.len.ensures i - 1 + c.len-2.ensures i)) (TooMany 1048576)))
          c.in_default-over_nets.ensures,
      λ i. record { insts = insts i; nets = nets i },
    )
