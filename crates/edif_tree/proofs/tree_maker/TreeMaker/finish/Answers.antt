use Rattle.std.proofs.Common.{sym, subst}
use Rattle.edif_tree.specs.Making.{HasRead}
use Rattle.edif_tree.specs.Maker.{Maker}
use Rattle.edif_tree.proofs.MakerLemmas.{finishes}
use Rattle.edif_tree.proofs.tree_maker.TreeMaker.finish.Goals as goal

pub returns-in-None-clause-fed : goal.returns-in-None-clause-fed
returns-in-None-clause-fed c fed h =
    let R : Maker → Type 0 = λ m. HasRead m.making fed in
    finishes fed c.args.end c.self.inside.making c.finish.result (subst R (sym c.self.view_is) h.read) c.finish.ensures.ok c.finish.ensures.at
