use Rattle.edif_tree.proofs.making.Making.add.Goals as goal

pub returns-in-Some-clause-at : goal.returns-in-Some-clause-at
returns-in-Some-clause-at c ts rest end h = c.in-Some.ensures.some ts rest c.args.place end h
