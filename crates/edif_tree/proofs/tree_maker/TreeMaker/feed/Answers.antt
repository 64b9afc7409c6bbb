use Rattle.std.proofs.Common.{◌++◌, ◌∙◌, ap, sym, subst}
use Rattle.edif_tree.specs.Making.{HasRead}
use Rattle.edif_tree.specs.Maker.{Maker}
use Rattle.edif_tree.proofs.MakerLemmas.{read_none}
use Rattle.edif_tree.proofs.tree_maker.TreeMaker.feed.Goals as goal

pub invariant_of-self : goal.invariant_of-self
invariant_of-self c = λ going. (let h = c.self.invariant going in (h.0 ++ c.args.tokens.items, c.in-Ok.ensures.ok h.0 h.1))

pub returns-in-Ok-clause-fed : goal.returns-in-Ok-clause-fed
returns-in-Ok-clause-fed c fed h =
    let R : Maker → Type 0 = λ m. HasRead m.making fed in
    let read = c.in-Ok.ensures.ok fed (subst R (sym c.self.view_is) h.read) in
    (record { goes_on = ap (λ (m : Maker). m.failed) c.self.view_is ∙ h.goes_on; read = read }, read_none c.add_all.new.self (fed ++ c.args.tokens.items) read)
