use Rattle.edif_contents.proofs.KnownLemmas.{zip_pushed}
use Rattle.edif_contents.proofs.known.KnownCell.push_to.Goals as goal

pub returns-clause-names : goal.returns-clause-names
returns-clause-names c = λ h. rw (c.push_reserved.ensures.items, c.push_reserved-2.ensures.items) (zip_pushed c.args.inner.now.items c.args.cells.now.items c.self.inside.ports c.self.inside.body h c.self.invariant)
