use Rattle.std.proofs.Common.{refl}
use Rattle.std.proofs.lemmas.Result.{on_ok_weaker}
use Rattle.edif_tree.proofs.MakingLemmas.{read_right, can_cut}
use Rattle.edif_tree.proofs.making.Making.close.Goals as goal

pub push_form-requires : goal.push_form-requires
push_form-requires c = can_cut c.args.self.now c.pop.new.self.items c.in-Some.form c.requires.reads.0 c.requires.reads.1 c.in-Some.ensures.items

pub returns : goal.returns
returns c = record {
  ok = on_ok_weaker c.push_form.result (λ e ts h. read_right c.args.self.now _ c.pop.new.self.items c.in-Some.form c.args.place ts c.in-Some.ensures.items e refl h) c.push_form.ensures.ok;
}
