use Rattle.std.proofs.Common.{rules, Some, None, option_map}
use Rattle.std.specs.Arc.{arc_value}
use Rattle.std.proofs.lemmas.Result.{IfOk-weaker}
use Rattle.db_draft.specs.Layers.{over_of}
use Rattle.db_draft.proofs.Layers.{new_cell, changed_cell, same_cell}
use Rattle.db_draft.proofs.layer.Layer.share.Goals as goal

pub returns-then-slot-count : goal.returns-then-slot-count
returns-then-slot-count c = IfOk-weaker c.share_added.result _ _ (λ body is. new_cell (over_of c.args.self.now) c.args.shelf.now.cells c.args.slot (option_map arc_value body) (search rules) (search rules)) c.share_added.ensures

pub returns-in_ok-try_clone-in-Some : goal.returns-in_ok-try_clone-in-Some
returns-in_ok-try_clone-in-Some c = changed_cell (over_of c.args.self.now) c.args.shelf.now.cells c.args.slot (arc_value c.in_ok-try_clone-in-Some.field-0) (search rules) (search rules)

pub returns-in_ok-new-in-Some-cell : goal.returns-in_ok-new-in-Some-cell
returns-in_ok-new-in-Some-cell c = same_cell (over_of c.args.self.now) c.args.shelf.now.cells c.args.slot (Some (arc_value c.in_ok-new-in-Some-cell.field-0)) (search rules) (search rules) (search rules)

pub returns-in-None-cell : goal.returns-in-None-cell
returns-in-None-cell c = same_cell (over_of c.args.self.now) c.args.shelf.now.cells c.args.slot None (search rules) (search rules) (search rules)
