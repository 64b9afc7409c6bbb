use Rattle.std.proofs.Common.{◌++◌, map, refl, ap, ◌∙◌}
use Rattle.netlist_schema.specs.Types.{Inst}
use Rattle.ungroup_plans.proofs.InstLemmas.{few_names, insts_are, item_is}
use Rattle.ungroup_plans.proofs.insts.insts_after.Goals as goal

pub returns : goal.returns
returns c = λ inst at.
    let around = c.args.around.now in
    let within = c.args.within.now in
    let insts = around.insts in
    let item = c.deref.result.now in
    let few = few_names insts insts within.insts within.insts refl refl c.requires.around c.requires.within in
    c.in_ok-after.ensures
    ∙ insts_are around c.args.place inst within insts within.insts item c.new-made.result.items c.add_front.new.made.items c.add_children.new.made.items c.add_rest.new.made.items
    refl refl (c.deref.ensures ∙ item_is insts insts c.args.place c.at-inst.result.now inst refl c.at-inst.ensures.is at)
    c.new-made.ensures.items c.in_ok-add_front.ensures
    (c.in_ok-add_children.ensures (map (λ (i : Inst). i.name.id) insts) c.in_ok-taken.ensures few)
    (c.in_ok-add_rest.ensures ∙ ap (λ v. c.add_children.new.made.items ++ v) c.iter_from.ensures)
