use Rattle.edit_rules_spec.specs.Find.{is_same}
use Rattle.db_draft.specs.Layers.{over_of}
use Rattle.db_draft.proofs.Layers.{any_old, any_new}
use Rattle.db_draft.proofs.layer.Layer.has_same.Goals as goal

pub returns-then-has_same : goal.returns-then-has_same
returns-then-has_same c = any_old (λ other. is_same other c.args.name.now) (over_of c.args.self.now) c.args.shelf.now.cells c.has_same.result c.directory.result.now c.requires.fits c.directory.ensures c.has_same.ensures c.if-has_same.true

pub returns-else-has_same : goal.returns-else-has_same
returns-else-has_same c = any_new (λ other. is_same other c.args.name.now) (over_of c.args.self.now) c.args.shelf.now.cells c.has_same.result c.has_same-else-has_same.result c.directory.result.now c.args.self.now.names c.requires.fits c.directory.ensures c.requires.named c.has_same.ensures c.if-has_same.false c.has_same-else-has_same.ensures
