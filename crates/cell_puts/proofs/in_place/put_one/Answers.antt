use Rattle.std.proofs.Common.{◌≡◌, sym, subst}
use Rattle.std.specs.Prelude.{OnOk}
use Rattle.netlist_schema.specs.Design.{Design}
use Rattle.netlist_schema.specs.Valid.{IsValid}
use Rattle.edit_cells.proofs.Puts.{inst_put_is, net_put_is}
use Rattle.cell_puts.proofs.in_place.put_one.Goals as goal

pub put_net-requires-clause-valid : goal.put_net-requires-clause-valid
put_net-requires-clause-valid c = subst IsValid (sym (net_put_is c.args.design.now c.args.change c.in-Net.id c.in-Net.place c.in-Net.net c.in-Net.is c.requires.can)) c.requires.valid

pub put_inst-requires-clause-valid : goal.put_inst-requires-clause-valid
put_inst-requires-clause-valid c = subst IsValid (sym (inst_put_is c.args.design.now c.args.change c.in-Inst.id c.in-Inst.place c.in-Inst.inst c.in-Inst.is c.requires.can)) c.requires.valid

pub returns-in-Net-clause-ok : goal.returns-in-Net-clause-ok
returns-in-Net-clause-ok c = subst (λ (e : Design). OnOk c.put_net.result (c.put_net.new.self ≡ e)) (net_put_is c.args.design.now c.args.change c.in-Net.id c.in-Net.place c.in-Net.net c.in-Net.is c.requires.can) c.put_net.ensures.ok

pub returns-in-Inst-clause-ok : goal.returns-in-Inst-clause-ok
returns-in-Inst-clause-ok c = subst (λ (e : Design). OnOk c.put_inst.result (c.put_inst.new.self ≡ e)) (inst_put_is c.args.design.now c.args.change c.in-Inst.id c.in-Inst.place c.in-Inst.inst c.in-Inst.is c.requires.can) c.put_inst.ensures.ok
