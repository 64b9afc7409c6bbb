use Rattle.std.proofs.Common.{List, take, sym, subst, refl}
use Rattle.std.specs.List.{All}
use Rattle.std.proofs.lemmas.List.{take_all}
use Rattle.std.proofs.lemmas.List.Elements.{All-push}
use Rattle.edit_cells.proofs.Patches.{taken_one_more}
use Rattle.edit_cells.specs.declared.change.CellChange.{CellChange}
use Rattle.where_used.specs.Changes.{KeepsInsts}
use Rattle.where_used.proofs.indexed.keeps_insts.Goals as goal

pub loop-change-preserved : goal.loop-change-preserved
loop-change-preserved c =
    let xs = c.args.changes.now in
    let i = c.loop-change.change-index in
    subst (λ (v : List CellChange). All KeepsInsts v) (sym (taken_one_more xs i c.change-item.result c.loop-change-test.true c.change-item.is))
    (All-push KeepsInsts (take i xs) c.change-item.result c.loop-change.invariant (c.if-not-keeps.ensures refl))

pub returns : goal.returns
returns c = λ _. subst (λ (v : List CellChange). All KeepsInsts v) (take_all c.loop-change.change-index c.args.changes.now c.loop-change-test.false) c.loop-change.invariant
