use Rattle.std.proofs.Common.{◌≡◌, ◌∙◌, Some, ap, slice_get, sym}
use Rattle.std.specs.Option.{option_copied}
use Rattle.netlist_schema.specs.Design.{cell_at}
use Rattle.netlist_schema.specs.Hierarchy.{insts_at}
use Rattle.netlist_schema.specs.Types.{CellBody, Inst}
use Rattle.net_rows.proofs.RowLemmas.{leads_is}
use Rattle.net_rows.proofs.leads.leads.Goals as goal

pub returns-in-Some-cell : goal.returns-in-Some-cell
returns-in-Some-cell g c =
    let d = g.S.Shown.design c.args.design.now in
    let inst : Inst = c.in-Some.inst.now in
    let body : CellBody = c.in-Some-cell.body.now in
    let there : slice_get (insts_at d c.args.cell) c.args.joint.now.inst ≡ Some inst = sym c.inst_at.ensures ∙ ap option_copied c.in-Some.is in
    let is : cell_at d inst.of ≡ Some body = sym c.cell.ensures.value ∙ ap option_copied c.in-Some-cell.is in
    c.leads_in.ensures ∙ sym (leads_is c.args.role d c.args.classes.now c.args.rows.now c.args.cell c.args.joint.now inst there body is)
