use Rattle.std.proofs.Common.{refl}
use Rattle.std.proofs.lemmas.Result.{on_ok_weaker}
use Rattle.edif_spelling_spec.specs.Lent.{kind_of}
use Rattle.edif_tree.proofs.MakingLemmas.{read_token}
use Rattle.edif_tree.proofs.making.Making.add_leaf.Goals as goal

pub returns : goal.returns
returns c = record {
  ok = on_ok_weaker c.push_leaf.result (λ e ts h. read_token c.args.self.now _ c.args.place (kind_of c.args.kind) ts c.requires.leaf c.requires.inside e refl h) c.push_leaf.ensures.ok;
}
