use Rattle.std.proofs.Common.{refl, ap, ◌∙◌, ◌++◌, ◌∷◌, []}
use Rattle.edif_tree.proofs.MakingLemmas.{read_left}
use Rattle.edif_tree.proofs.making.Making.begin.Goals as goal

pub returns-then-len-capacity : goal.returns-then-len-capacity
returns-then-len-capacity c = record {
  ok = λ ts h. read_left c.args.self.now _ c.args.place ts c.requires refl (c.push_reserved.ensures.items ∙ ap (λ n. c.args.self.now.forms.items ++ record { place = c.args.place; start = n } ∷ []) c.loose_len-start.ensures) h;
}

pub returns : goal.returns
returns c = record {
  ok = λ ts h. read_left c.args.self.now _ c.args.place ts c.requires refl (c.in_ok-push.ensures.items ∙ ap (λ n. c.args.self.now.forms.items ++ record { place = c.args.place; start = n } ∷ []) c.loose_len-start.ensures) h;
}
