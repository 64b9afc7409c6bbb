use Rattle.edif_spelling_spec.proofs.PlacedListings.{one_placed, lists_listing, placed_from}
use Rattle.edif_spelling_spec.proofs.tree_laws.one_placed_tree.Goals as goal

pub returns-clause-one : goal.returns-clause-one
returns-clause-one c ts s t h k = one_placed ts s t h k

pub returns-clause-listing : goal.returns-clause-listing
returns-clause-listing c ts t h = lists_listing t ts h

pub returns-clause-placed : goal.returns-clause-placed
returns-clause-placed c ts b e = placed_from b ts e
