use Rattle.std.proofs.Common.{◌≡◌, ◌+◌, ◌++◌, List, get_or, map, subst, sym, ap, ◌∙◌}
use Rattle.std.proofs.lemmas.List.{take_all}
use Rattle.netlist_schema.specs.Hierarchy.{IsCell}
use Rattle.netlist_schema.specs.Types.{Inst}
use Rattle.netlist_schema.proofs.Lists.{all_gone, next_item}
use Rattle.edif_spec.specs.Canonical.{layout, new_line, inst_tree}
use Rattle.edif_writer.specs.Lines.{lined}
use Rattle.edif_writer.proofs.FormTexts.{one_more}
use Rattle.netdb_outside.proofs.BufferedLemmas.{writes_nothing, writes_then, writes_same}
use Rattle.edif_writer.proofs.contents.write_inst_lines.Goals as goal

pub loop-inst-init : goal.loop-inst-init
loop-inst-init g c = record {
  can_next = tt;
  is_finite = tt;
  written = (0, sym (c.into_iter-inst-iterator.ensures.into_iter_gives ∙ c.iter-inst-items.ensures.value), writes_nothing c.args.out.now c.args.page.now);
}

pub write_inst-requires : goal.write_inst-requires
write_inst-requires g c =
    let far = c.loop-inst.invariant.written in
    let inst = c.in-Some.inst.now in
    let next = next_item c.args.insts.now far.0 inst c.next.new.self (far.1 ∙ c.in-Some.ensures.steps) in
    subst (λ (i : Inst). IsCell (g.S.Shown.design c.args.design.now) i.of) (sym next.is ∙ sym c.deref.ensures) (c.requires far.0 inst next.within)

pub loop-inst-preserved : goal.loop-inst-preserved
loop-inst-preserved g c =
    let far = c.loop-inst.invariant.written in
    let insts = c.args.insts.now in
    let next = next_item insts far.0 c.in-Some.inst.now c.next.new.self (far.1 ∙ c.in-Some.ensures.steps) in
    record {
      can_next = tt;
      is_finite = tt;
      written = (
        far.0 + 1,
        next.left,
        writes_same (one_more (λ t. new_line 5 ++ layout 6 t) (inst_tree (g.S.Shown.design c.args.design.now).libs) insts far.0 c.deref.result.now next.within (subst (λ (inst : Inst). inst ≡ get_or insts far.0 inst) (sym c.deref.ensures) next.is))
            (writes_then far.2 (writes_then c.put_line.ensures (c.write_inst.ensures 6))),
      );
    }

pub returns : goal.returns
returns g c =
    let far = c.loop-inst.invariant.written in
    let insts = c.args.insts.now in
    let all = take_all far.0 insts (all_gone insts far.0 (far.1 ∙ c.in-None.ensures.steps.0)) in
    writes_same (ap (λ (is : List Inst). lined 5 (map (inst_tree (g.S.Shown.design c.args.design.now).libs) is)) all) far.2
