use Rattle.std.proofs.Common.{rules}
use Rattle.std.specs.Option.{option_copied}
use Rattle.db_draft.specs.Layers.{over_of}
use Rattle.db_draft.proofs.Layers.{new_cell, changed_cell, same_cell}
use Rattle.db_draft.proofs.layer.Layer.cell.Goals as goal

pub returns-then-slot-count : goal.returns-then-slot-count
returns-then-slot-count c = new_cell (over_of c.args.self.now) c.args.shelf.now.cells c.args.slot (option_copied c.added.result) (search rules) (search rules)

pub returns-in-Some : goal.returns-in-Some
returns-in-Some c = changed_cell (over_of c.args.self.now) c.args.shelf.now.cells c.args.slot c.in-Some.body.now (search rules) (search rules)

pub returns-in-None : goal.returns-in-None
returns-in-None c = same_cell (over_of c.args.self.now) c.args.shelf.now.cells c.args.slot (option_copied c.cell.result) (search rules) (search rules) c.cell.ensures
