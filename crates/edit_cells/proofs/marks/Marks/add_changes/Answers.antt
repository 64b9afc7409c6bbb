use Rattle.std.proofs.Common.{sym, ap, subst, ◌∙◌, ◌+◌, arith, List, [], take}
use Rattle.std.proofs.lemmas.List.{take_all}
use Rattle.netlist_schema.specs.Design.{Design}
use Rattle.edit_rules_spec.specs.Edit.{Edit, IsChanged, edited}
use Rattle.edit_cells.specs.Change.{cell_edits, edit_of}
use Rattle.edit_cells.specs.State.{GrowsBy}
use Rattle.edit_cells.specs.declared.change.CellChange.{CellChange}
use Rattle.edit_cells.proofs.Growing.{grows_by_more, grows_by_none, no_design, prefix_refl, prefix_twice}
use Rattle.edit_cells.proofs.Patches.{cell_edits_more, taken_one_more}
use Rattle.edit_cells.proofs.marks.Marks.add_changes.Goals as goal

pub loop-change-init : goal.loop-change-init
loop-change-init c = (prefix_refl c.args.self.now, λ d. grows_by_none c.args.self.now (IsChanged (cell_edits d [])) (λ o never. never))

pub loop-change-preserved : goal.loop-change-preserved
loop-change-preserved c =
    let items = c.as_slice-change-items.result.now in
    let before = take c.loop-change.change-index items in
    let change = c.change-item.result in
    let grows : (d : Design) → GrowsBy c.args.self.now c.add_change.new.self (IsChanged (cell_edits d (take (c.loop-change.change-index + 1) items))) = λ d.
    subst (λ (edits : List Edit). GrowsBy c.args.self.now c.add_change.new.self (IsChanged edits))
    (sym (ap (cell_edits d) (taken_one_more items c.loop-change.change-index change c.loop-change-test.true c.change-item.is) ∙ cell_edits_more d before change))
    (grows_by_more c.args.self.now c.loop-change.self c.add_change.new.self (cell_edits d before) (edit_of (edited d (cell_edits d before)) change) (c.loop-change.invariant.1 d) (c.in_ok-add_change.ensures (edited d (cell_edits d before)))) in
    (prefix_twice c.args.self.now c.loop-change.self c.add_change.new.self c.loop-change.invariant.0 (c.in_ok-add_change.ensures no_design).prefix, grows)

pub returns : goal.returns
returns c = λ d.
    subst (λ (changes : List CellChange). GrowsBy c.args.self.now c.loop-change.self (IsChanged (cell_edits d changes)))
    (take_all c.loop-change.change-index c.as_slice-change-items.result.now (omega arith) ∙ c.as_slice-change-items.ensures) (c.loop-change.invariant.1 d)
