use Rattle.std.specs.Arc.{arc_value}
use Rattle.db_draft.proofs.Applying.{absent_laid, laid_at, laid_distinct, laid_few, laid_fits, none_laid}
use Rattle.db_draft.proofs.draft.shelf_laid.Goals as goal

pub returns-in-None : goal.returns-in-None
returns-in-None c = none_laid c.args.base.now.libs c.args.layers.now c.requires.suit c.requires.sound c.args.lib.0 c.in-None.ensures

pub laid-requires-clause-fits : goal.laid-requires-clause-fits
laid-requires-clause-fits c = laid_fits c.args.base.now.libs c.args.layers.now c.requires.suit c.requires.sound c.args.lib.0 c.in_ok-shelf.field-0 c.in-Some-2.shelf c.in-Some.layer.now c.in-Some-2.is c.in_ok-shelf.ensures c.in-Some.ensures

pub laid-requires-clause-few : goal.laid-requires-clause-few
laid-requires-clause-few c = laid_few c.args.base.now.libs c.args.layers.now c.requires.suit c.requires.sound c.args.lib.0 c.in_ok-shelf.field-0 c.in-Some-2.shelf c.in-Some.layer.now c.in-Some-2.is c.in_ok-shelf.ensures c.in-Some.ensures

pub laid-requires-clause-distinct : goal.laid-requires-clause-distinct
laid-requires-clause-distinct c = laid_distinct c.args.base.now.libs c.args.layers.now c.requires.suit c.requires.sound c.args.lib.0 c.in_ok-shelf.field-0 c.in-Some-2.shelf c.in-Some.layer.now c.in-Some-2.is c.in_ok-shelf.ensures c.in-Some.ensures

pub returns-in_ok-laid-in-Some-2 : goal.returns-in_ok-laid-in-Some-2
returns-in_ok-laid-in-Some-2 c = laid_at c.args.base.now.libs c.args.layers.now c.requires.suit c.requires.sound c.args.lib.0 c.in_ok-shelf.field-0 c.in-Some-2.shelf c.in-Some.layer.now c.in-Some-2.is c.in_ok-shelf.ensures c.in-Some.ensures (arc_value c.in_ok-laid-in-Some-2.field-0) c.in_ok-laid-in-Some-2.ensures

pub returns-in-None-2 : goal.returns-in-None-2
returns-in-None-2 c = absent_laid c.args.base.now.libs c.args.layers.now c.requires.suit c.requires.sound c.args.lib.0 c.in_ok-shelf.field-0 c.in-None-2.is c.in_ok-shelf.ensures
