use Rattle.std.proofs.Common.{◌∙◌}
use Rattle.flat_items.proofs.LentLemmas.{unchanged}
use Rattle.flat_items.proofs.lent.PropertiesRef.of.Goals as goal

pub returns : goal.returns
returns c = unchanged c.as_slice.result.now ∙ c.as_slice.ensures
