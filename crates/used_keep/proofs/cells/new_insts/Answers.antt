use Rattle.std.proofs.Common.{◌++◌, List, map, sym, ap, ◌∙◌}
use Rattle.std.proofs.lemmas.List.{append-nil}
use Rattle.netlist_schema.specs.Types.{Inst}
use Rattle.edif_spec.specs.Arranged.{new_inst}
use Rattle.used_keep.proofs.cells.new_insts.Goals as goal

pub returns : goal.returns
returns c =
    let made = c.loop-inst.made.items in
    c.in_ok-kept.ensures
    ∙ sym (append-nil made)
    ∙ ap (λ (left : List Inst). made ++ map (new_inst c.args.places.now) left) (sym c.in-None.ensures.steps.0)
    ∙ c.loop-inst.invariant.so_far
