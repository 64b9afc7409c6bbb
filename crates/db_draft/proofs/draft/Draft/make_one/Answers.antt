use Rattle.std.proofs.Common.{◌∙◌}
use Rattle.std.specs.Arc.{arc_value}
use Rattle.db_draft.proofs.Drafting.{on_ok}
use Rattle.db_draft.proofs.Making.{fresh_distinct, inst_is, net_is}
use Rattle.db_draft.proofs.draft.Draft.make_one.Goals as goal

pub push-requires-clause-distinct : goal.push-requires-clause-distinct
push-requires-clause-distinct c = fresh_distinct c.args.self.now.design c.args.change c.in-Fresh.id c.in-Fresh.body (arc_value c.in_ok-body-in-Fresh.body) c.in-Fresh.is c.in_ok-body-in-Fresh.ensures.ok c.requires.can c.requires.distinct

pub returns-in-Net-clause-ok : goal.returns-in-Net-clause-ok
returns-in-Net-clause-ok c = on_ok c.edit-in-Net.result _ _ (λ is. is ∙ λ i. record { base = c.args.self.now.base; design = net_is c.args.self.now.design c.args.change c.in-Net.id c.in-Net.place c.in-Net.net c.in-Net.is i }) c.edit-in-Net.ensures.ok

pub returns-in-Inst-clause-ok : goal.returns-in-Inst-clause-ok
returns-in-Inst-clause-ok c = on_ok c.edit-in-Inst.result _ _ (λ is. is ∙ λ i. record { base = c.args.self.now.base; design = inst_is c.args.self.now.design c.args.change c.in-Inst.id c.in-Inst.place c.in-Inst.inst c.in-Inst.is i }) c.edit-in-Inst.ensures.ok
