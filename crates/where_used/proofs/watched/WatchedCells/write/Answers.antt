use Rattle.std.proofs.Common.{ℕ, take, sym, ap, ◌∙◌}
use Rattle.edit_cells.proofs.States.{made_done, nothing_done}
use Rattle.where_used.proofs.watched.WatchedCells.write.Goals as goal

pub returns-in-Ok-clause-ok : goal.returns-in-Ok-clause-ok
returns-in-Ok-clause-ok c =
    made_done c.args.self.now _ c.self.inside.indexed _ c.self.inside.reads c.self.inside.written _ c.args.change (sym c.self.view_is) c.in-Ok.ensures.ok c.in_ok-add_written.ensures

pub returns-in-Err-clause-err : goal.returns-in-Err-clause-err
returns-in-Err-clause-err c =
    nothing_done c.args.self.now _ c.self.inside.indexed _ c.self.inside.reads c.self.inside.written c.add_written.new.self _ (sym c.self.view_is) c.in-Err.ensures.err (λ d. (c.in_ok-add_written.ensures d).prefix)
    (c.cut.ensures ∙ ap (λ (n : ℕ). take n c.add_written.new.self) c.count-before.ensures)
