use Rattle.edif_spelling_spec.specs.Tree.{bare}
use Rattle.edif_tree.specs.Handles.{here}
use Rattle.edif_grammar.proofs.Misplaced.{named}
use Rattle.edif_grammar.proofs.lent.parts_as.Goals as goal

pub unreachable-requires : goal.unreachable-requires
unreachable-requires c = named c.args.keyword (bare (here c.args.node)) c.requires c.in_default.ensures.none
