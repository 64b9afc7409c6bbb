use Rattle.std.specs.Cmp.Lexicographic.{nat_list_eq_equiv}
use Rattle.edif_tree.proofs.WordLemmas.{word_found}
use Rattle.edif_tree.proofs.words.Words.add.Goals as goal

pub returns-in-Some-clause-keys : goal.returns-in-Some-clause-keys
returns-in-Some-clause-keys c = word_found c.args.name.now c.args.self.now c.in-Some.at c.in-Some.ensures

pub returns-in-Some-clause-stored : goal.returns-in-Some-clause-stored
returns-in-Some-clause-stored c = (c.args.name.now, c.in-Some.ensures, nat_list_eq_equiv.refl c.args.name.now)
