use Rattle.std.proofs.Common.{◌≡◌, ℕ, sym, refl, ap, subst, ◌∙◌, take}
use Rattle.edit_rules_spec.specs.Edit.{edited}
use Rattle.edit_cells.specs.Change.{HasMade, edits_of}
use Rattle.edit_cells.specs.State.{State}
use Rattle.edit_cells.proofs.States.{made_done, nothing_done}
use Rattle.db_draft.specs.Drafts.{Drafted}
use Rattle.db_work.proofs.work.WorkCells.write.Goals as goal

pub returns-in-Ok-clause-ok : goal.returns-in-Ok-clause-ok
returns-in-Ok-clause-ok c =
    let w = c.self.inside in
    subst (λ (f : Drafted). HasMade c.args.self.now (record { base = f.base; design = f.design; reads = w.reads; written = c.add_written.new.self }) (edits_of c.args.self.now.design c.args.change)) (sym c.in-Ok.ensures.ok)
    (made_done c.args.self.now w.draft.base w.draft.design (edited w.draft.design (edits_of w.draft.design c.args.change)) w.reads w.written c.add_written.new.self c.args.change (sym c.self.view_is) refl c.in_ok-add_written.ensures)

pub returns-in-Err-clause-err : goal.returns-in-Err-clause-err
returns-in-Err-clause-err c =
    let w = c.self.inside in
    subst (λ (f : Drafted). let now : State = record { base = f.base; design = f.design; reads = w.reads; written = c.cut.new.self } in now ≡ c.args.self.now) (sym c.in-Err.ensures.err)
    (nothing_done c.args.self.now w.draft.base w.draft.design w.draft.design w.reads w.written c.add_written.new.self c.cut.new.self (sym c.self.view_is) refl (λ d. (c.in_ok-add_written.ensures d).prefix)
    (c.cut.ensures ∙ ap (λ (n : ℕ). take n c.add_written.new.self) c.count-before.ensures))
