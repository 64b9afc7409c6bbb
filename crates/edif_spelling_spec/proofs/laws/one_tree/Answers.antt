use Rattle.edif_spelling_spec.proofs.Listings.{one_listing}
use Rattle.edif_spelling_spec.proofs.laws.one_tree.Goals as goal

pub returns : goal.returns
returns c s t e = one_listing s t e
