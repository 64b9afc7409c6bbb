use Rattle.std.proofs.Common.{sym, ◌∙◌}
use Rattle.flat_items.proofs.LentLemmas.{unchanged_at}
use Rattle.flat_items.proofs.lent.PropertiesRef.unchanged.Goals as goal

pub returns-then-is_empty-clause-some : goal.returns-then-is_empty-clause-some
returns-then-is_empty-clause-some c = sym (unchanged_at c.args.self.base.now c.args.self.notes.now c.args.self.places.now (sym c.is_empty.ensures ∙ c.if-is_empty.true))
