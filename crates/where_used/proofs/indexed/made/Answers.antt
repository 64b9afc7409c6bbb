use Rattle.std.proofs.Common.{sym, subst, ap, ◌∙◌, List}
use Rattle.std.proofs.lemmas.Result.{IfOk-weaker}
use Rattle.netlist_schema.specs.Valid.{IsValid}
use Rattle.edit_rules_spec.specs.Edit.{edited}
use Rattle.edit_cells.specs.Change.{cell_edits}
use Rattle.edit_cells.specs.declared.change.CellChange.{CellChange}
use Rattle.edit_cells.proofs.States.{made_is}
use Rattle.where_used.proofs.indexed.made.Goals as goal

pub with_libs-requires : goal.with_libs-requires
with_libs-requires c =
    let d = c.args.design.now in
    let cells = c.args.change.cells in
    subst IsValid
    (made_is d cells c.args.change.notes c.in_ok-libs.libs
    (ap (λ (v : List CellChange). edited d (cell_edits d v)) (sym c.as_slice.ensures) ∙ c.in_ok-libs.ensures d (sym c.libs.ensures.value)))
    c.requires

pub returns : goal.returns
returns c =
    let d = c.args.design.now in
    let cells = c.args.change.cells in
    let is = made_is d cells c.args.change.notes c.in_ok-libs.libs
    (ap (λ (v : List CellChange). edited d (cell_edits d v)) (sym c.as_slice.ensures) ∙ c.in_ok-libs.ensures d (sym c.libs.ensures.value)) in
    IfOk-weaker c.with_libs.result _ _ (λ made same. same ∙ sym is) c.with_libs.ensures
